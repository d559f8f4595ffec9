-- What is yielded: no packet twice, and in a genuine run whose repairs widen the writes of the other side.
use Rattle.std.proofs.Common.{◌≡◌, inl, inr, ℕ, Bool, true, false, cond, ◌&&◌, List, [], ◌∷◌, ◌++◌, map, Option, Some, None, refl, sym, ap, ◌∙◌, subst, append_assoc}
use Rattle.std.specs.Prelude.{◌==◌, filter}
use Rattle.std.specs.List.{fold, list_all}
use Rattle.std.proofs.lemmas.Bool.{and_parts, eq-eqb, false≢true}
use Rattle.std.proofs.lemmas.List.{append-nil}
use Rattle.rtp_base.specs.declared.kind.Kind.{Kind}
use Rattle.rtp_base.specs.declared.kind.Kind.TheVariants.{Rtp, Rtcp}
use Rattle.media_model.specs.declared.entry.Packet.{Packet}
use Rattle.media_model.specs.declared.entry.Side.{Side}
use Rattle.media_model.specs.declared.entry.Write.{Write as Writing}
use Rattle.media_model.specs.declared.entry.Opened.{Opened as OpenedEntry}
use Rattle.media_model.specs.declared.entry.Sealed.{Sealed as SealedEntry}
use Rattle.media_model.specs.declared.entry.Entry.{Entry}
use Rattle.media_model.specs.declared.entry.Entry.TheVariants.{Wrote, Ticked, Called, Got, Sealed, Opened, Yielded}
use Rattle.media_model.specs.declared.step.Step.{Step}
use Rattle.media_model.specs.declared.setup.Setup.{Setup}
use Rattle.media_model.specs.Entries.{writes_by, write_by, writes_on, write_on, packet_by, packets, got_after}
use Rattle.media_model.specs.Genuine.{IsPeersSeal, IsGenuine}
use Rattle.media_model.specs.Sides.{peer_of, same_side}
use Rattle.run_model.specs.Events.{Plain, Event, got, sealed, yielded, Types, Outgoing, Incoming}
use Rattle.run_model.specs.Listing.{IsIn, NoRepeat}
use Rattle.run_model.specs.Receiving.{Lists, yields}
use Rattle.run_model.specs.Runs.{Happening, on_side, EachFrom as EachHappening, last_got as last_event, IsGenuineAt, IsGenuine as RunGenuine, IsOwedAt}
use Rattle.run_model.specs.RxPlay.{lists_in}
use Rattle.run_model.specs.TxPlay.{is_sealing}
use Rattle.run_model.specs.Transcripts.{plain_in, sealed_event, opened_event, happening_of, happenings}
use Rattle.run_model.specs.Whole.{Config, incoming_of, probes, IsSound, Session, Turns, writes, ticks, calls, requests, opens, hears, stays}
use Rattle.media_laws.proofs.Lists.{IsIn-right, IsIn-append, IsIn-map, IsIn-from_map, IsIn-flat_map, IsIn-from_flat_map, IsIn-filter, tested}
use Rattle.media_laws.proofs.RxYields.{yields_new}
use Rattle.media_laws.proofs.Tables.{serve_seals}
use Rattle.media_laws.proofs.Whole.{runs_yield_once, runs_yield_writes}
use Rattle.media_laws.specs.Config.{config_of}
use Rattle.media_laws.specs.Headline.{past_of, NoPacketTwice, IsOwedTo, YieldsWrites}
use Rattle.media_laws.specs.Opening.{Sealing}
use Rattle.media_laws.specs.Plain.{extensions_of}
use Rattle.media_laws.specs.Play.{Plays}
use Rattle.media_laws.proofs.Playing.{happenings-more, EachFrom-places, as_run, each_taken}
use Rattle.media_laws.proofs.Readings.{same_is, sealed_happens, writes_read, packets_read}
use Rattle.media_laws.proofs.Streams.{HoldsLists, hold_lists}

-- of which stream a packet is

both_false : (b : Bool) → (b && false) ≡ false
both_false true = refl
both_false false = refl

probes_quiet : (T : Types) (l : Lists) (ssrc n : ℕ) (p : Plain) → yields T probes l ssrc n p ≡ []
probes_quiet T l ssrc n p = rw (both_false (T.is_rtx p.pt)) refl

pub all_in : (p : Event → Bool) (xs : List Event) (x : Event) → list_all p xs ≡ true → IsIn x xs → p x ≡ true
all_in p [] x h i = absurd i
all_in p (y ∷ xs) x h (inl e) = ap p e ∙ (and_parts (p y) (list_all p xs) h).0
all_in p (y ∷ xs) x h (inr i) = all_in p xs x (and_parts (p y) (list_all p xs) h).1 i

-- the stream that the other side sends and of which a packet is
abbrev pub IsOf : Config → Side → Packet → Type 0
IsOf C side packet = (M : Outgoing) × IsIn M (C.outgoing (peer_of side)) × (packet.ssrc ≡ M.ssrc)

turn_yields : {C : Config} {side : Side} {a c : Session} {new : List Event} (past : List Event) (packet : Packet) → HoldsLists C side a.rx.table past → Turns C side a c new → IsIn (yielded packet) new → IsOf C side packet
turn_yields past packet l (writes time w late unused) i = absurd (elim i [ inl e ↦ cc e | inr j ↦ j ])
turn_yields past packet l (ticks time new next late d f count) i = absurd (elim i [ inl e ↦ cc e | inr j ↦ false≢true (all_in is_sealing new (yielded packet) (serve_seals d.serves) j) ])
turn_yields past packet l (calls time items late others) i = absurd (elim i [ inl e ↦ cc e | inr j ↦ elim j [ inl e ↦ cc e | inr k ↦ k ] ])
turn_yields past packet l (requests time late) i = absurd (elim i [ inl e ↦ cc e | inr j ↦ j ])
turn_yields past packet l (hears time bytes index items late report h) i = absurd (elim i [ inl e ↦ cc e | inr j ↦ elim j [ inl e ↦ cc e | inr k ↦ k ] ])
turn_yields past packet l (stays time kind bytes late out unread) i = absurd (elim i [ inl e ↦ cc e | inr j ↦ j ])
turn_yields past packet l (opens time bytes ssrc n p s late at o) (inl e) = absurd (cc e)
turn_yields past packet l (opens time bytes ssrc n p s late at o) (inr (inl e)) = absurd (cc e)
turn_yields {C} {side} past packet l (opens time bytes ssrc n p s late at o) (inr (inr i)) =
    let f = IsIn-from_map yielded (yielded packet) (yields C.types s.0 (lists_in s.1) ssrc n p) i in
    let same : packet ≡ f.0 = let e = f.2 in cc e in
    let there : IsIn packet (yields C.types s.0 (lists_in s.1) ssrc n p) = subst (λ q. IsIn q (yields C.types s.0 (lists_in s.1) ssrc n p)) (sym same) f.1 in
    elim (yields_new C.types s.0 (lists_in s.1) ssrc n p o.fresh) [
      | inl none ↦ absurd (subst (IsIn packet) none there)
      | inr new ↦
          let source : packet.ssrc ≡ s.0.ssrc = elim (subst (IsIn packet) new.1 there) [ inl e ↦ ap (λ (q : Packet). q.ssrc) e ∙ new.2.source | inr k ↦ absurd k ] in
          elim (l.known s at) [
            | inl e ↦ absurd (subst (IsIn packet) (ap (λ L. yields C.types L (lists_in s.1) ssrc n p) e ∙ probes_quiet C.types (lists_in s.1) ssrc n p) there)
            | inr j ↦
                let m = IsIn-from_map incoming_of s.0 (C.outgoing (peer_of side)) j in
                (m.0, m.1, source ∙ ap (λ (L : Incoming). L.ssrc) m.2)
          ]
    ]

pub read_yield : (setup : Setup) (side owner : Side) (packet : Packet) (new : List Event) (es : List Entry) → happenings setup es ≡ on_side owner new → IsIn (Yielded side packet) es → (side ≡ owner) × IsIn (yielded packet) new
read_yield setup side owner packet new es read i =
    let h : IsIn {X = Happening} (side, yielded packet) (on_side owner new) = subst (IsIn {X = Happening} (side, yielded packet)) read (IsIn-map (happening_of (extensions_of setup)) (Yielded side packet) es i) in
    let f = IsIn-from_map (λ (e : Event). (owner, e)) (side, yielded packet) new h in
    (ap (λ (z : Happening). z.0) f.2, subst (λ g. IsIn g new) (ap (λ (z : Happening). z.1) (sym f.2)) f.1)

pub yielded_of : {seal : Sealing} {setup : Setup} {a b : Session} {steps : List Step} {entries : List Entry} → IsSound (config_of seal setup) → Plays seal setup a b steps entries
    → (side : Side) (packet : Packet) → IsIn (Yielded side packet) entries → IsOf (config_of seal setup) side packet
yielded_of {seal} {setup} sound h =
    each_taken (λ es. (side : Side) (packet : Packet) → IsIn (Yielded side packet) es → IsOf (config_of seal setup) side packet) (λ side packet i. absurd i)
    (λ past owner step new t each side packet i. elim (IsIn-append (Yielded side packet) past new i) [
      | inl j ↦ each side packet j
      | inr j ↦
          let r = read_yield setup side owner packet t.outcome.events new t.outcome.read j in
          subst (λ z. IsOf (config_of seal setup) z packet) (sym r.0) (turn_yields (past_of setup owner past) packet (hold_lists sound (as_run t.plays) owner) t.outcome.turn r.1)
    ]) h

-- none twice

once_all : (ps : List Packet) → ((p : Packet) → IsIn p ps → NoRepeat (map (λ (q : Packet). q.number) (filter (λ q. q.ssrc == p.ssrc) ps))) → NoRepeat ps
once_all [] h = tt
once_all (p ∷ ps) h = (
  λ i.
      let own : (p.ssrc == p.ssrc) ≡ true = eq-eqb p.ssrc p.ssrc refl in
      let all : NoRepeat (p.number ∷ map (λ (q : Packet). q.number) (filter (λ q. q.ssrc == p.ssrc) ps)) = rw own at (h p (inl refl)) in
      all.0 (IsIn-map (λ (q : Packet). q.number) p (filter (λ q. q.ssrc == p.ssrc) ps) (IsIn-filter (λ q. q.ssrc == p.ssrc) p ps i own)),
  once_all ps (λ q i. rest q (h q (inr i))),
)
  where
    rest : (q : Packet) → NoRepeat (map (λ (r : Packet). r.number) (filter (λ r. r.ssrc == q.ssrc) (p ∷ ps))) → NoRepeat (map (λ (r : Packet). r.number) (filter (λ r. r.ssrc == q.ssrc) ps))
    rest q k = elim (tested (p.ssrc == q.ssrc)) [ inl t ↦ (rw t at k).1 | inr t ↦ rw t at k ]

packet_in : (side : Side) (packet : Packet) (entries : List Entry) → IsIn packet (packets side entries) → IsIn (Yielded side packet) entries
packet_in side packet entries i = let f = IsIn-from_flat_map (packet_by side) packet entries i in subst (λ x. IsIn x entries) (one f.0 f.2) f.1
  where
    one : (x : Entry) → IsIn packet (packet_by side x) → x ≡ Yielded side packet
    one (Yielded s q) j = elim (tested (same_side side s)) [
      | inl t ↦ elim (rw t at j) [ inl e ↦ (λ k. Yielded (sym (same_is side s t) k) (sym e k)) | inr none ↦ absurd none ]
      | inr t ↦ absurd (rw t at j)
    ]
    one (Wrote s t w) j = absurd j
    one (Ticked s t) j = absurd j
    one (Called s t c) j = absurd j
    one (Got g) j = absurd j
    one (Sealed s) j = absurd j
    one (Opened o) j = absurd j

pub no_packet_twice : {seal : Sealing} {setup : Setup} {a b : Session} {steps : List Step} {entries : List Entry} → IsSound (config_of seal setup) → Plays seal setup a b steps entries → NoPacketTwice entries
no_packet_twice {seal} {setup} {a} {b} {entries = entries} sound h side =
    once_all (packets side entries)
    (λ p i.
    let m = yielded_of sound h side p (packet_in side p entries i) in
    subst (λ r. NoRepeat (map (λ (q : Packet). q.number) (filter (λ q. q.ssrc == r) (packets side entries)))) (sym m.2)
    (subst (λ ps. NoRepeat (map (λ (q : Packet). q.number) ps)) (packets_read setup side (incoming_of m.0) entries)
    (runs_yield_once (config_of seal setup) a b (happenings setup entries) sound (as_run h) side m.0 m.1)))

-- the bytes that came last

skip_last : (b : Bool) (e : Event) (past : List Event) (d : List ℕ) → ((es : List Event) → last_event d (e ∷ es) ≡ last_event d es) → last_event d (cond b (e ∷ []) [] ++ past) ≡ last_event d past
skip_last true e past d h = h past
skip_last false e past d h = refl

last_read : (setup : Setup) (side : Side) (entries : List Entry) (o : Option (List ℕ)) (d bytes : List ℕ) → ((x : List ℕ) → o ≡ Some x → d ≡ x) → fold (got_after side) o entries ≡ Some bytes
    → last_event d (past_of setup side entries) ≡ bytes
last_read setup side [] o d bytes same e = same bytes e
last_read setup side (Got g ∷ entries) o d bytes same e = one (λ o d same e. last_read setup side entries o d bytes same e) (same_side side g.side) e
  where
    one : ((o : Option (List ℕ)) (d : List ℕ) → ((x : List ℕ) → o ≡ Some x → d ≡ x) → fold (got_after side) o entries ≡ Some bytes → last_event d (past_of setup side entries) ≡ bytes) → (b : Bool)
        → fold (got_after side) (cond b (Some g.bytes) o) entries ≡ Some bytes → last_event d (cond b (got g.time g.kind g.bytes ∷ []) [] ++ past_of setup side entries) ≡ bytes
    one more true e = more (Some g.bytes) g.bytes (λ x f. cc f) e
    one more false e = more o d same e
last_read setup side (Wrote s t w ∷ entries) o d bytes same e = skip_last (same_side side s) _ _ d (λ es. refl) ∙ last_read setup side entries o d bytes same e
last_read setup side (Ticked s t ∷ entries) o d bytes same e = skip_last (same_side side s) _ _ d (λ es. refl) ∙ last_read setup side entries o d bytes same e
last_read setup side (Called s t c ∷ entries) o d bytes same e = skip_last (same_side side s) _ _ d (λ es. refl) ∙ last_read setup side entries o d bytes same e
last_read setup side (Yielded s p ∷ entries) o d bytes same e = skip_last (same_side side s) _ _ d (λ es. refl) ∙ last_read setup side entries o d bytes same e
last_read setup side (Sealed s ∷ entries) o d bytes same e = skip_last (same_side side s.side) _ _ d (λ es. quiet s.kind es) ∙ last_read setup side entries o d bytes same e
  where
    quiet : (k : Kind) (es : List Event) → last_event d (sealed_event (extensions_of setup) k s ∷ es) ≡ last_event d es
    quiet Rtp es = refl
    quiet Rtcp es = refl
last_read setup side (Opened x ∷ entries) o d bytes same e = skip_last (same_side side x.side) _ _ d (λ es. quiet x.kind es) ∙ last_read setup side entries o d bytes same e
  where
    quiet : (k : Kind) (es : List Event) → last_event d (opened_event (extensions_of setup) k x ∷ es) ≡ last_event d es
    quiet Rtp es = refl
    quiet Rtcp es = refl

-- a genuine run

genuine_at : (setup : Setup) (past : List Entry) (o : OpenedEntry) → IsPeersSeal past o → IsGenuineAt (happenings setup past) (o.side, opened_event (extensions_of setup) o.kind o)
genuine_at setup past o g = of_kind o.kind refl
  where
    of_kind : (k : Kind) → o.kind ≡ k → IsGenuineAt (happenings setup past) (o.side, opened_event (extensions_of setup) k o)
    of_kind Rtcp is = tt
    of_kind Rtp is =
        let q : Plain = plain_in (extensions_of setup) g.seal.plain in
        let there : IsIn (Sealed g.seal) past = subst (IsIn (Sealed g.seal)) (sym g.sealed) (IsIn-right (Sealed g.seal) g.front (Sealed g.seal ∷ g.rest) (inl refl)) in
        let last : last_event [] (past_of setup o.side past) ≡ g.seal.bytes = last_read setup o.side past None [] g.seal.bytes (λ x e. absurd (cc e)) g.came in
        let happens : happening_of (extensions_of setup) (Sealed g.seal) ≡ (peer_of o.side, sealed o.ssrc o.index q (last_event [] (past_of setup o.side past))) =
        sealed_happens setup g.seal (g.kind ∙ is) ∙ (λ k. (g.side k, sealed (g.ssrc k) (g.index k) q (sym last k))) in
        (q, subst (λ h. IsIn h (happenings setup past)) happens (IsIn-map (happening_of (extensions_of setup)) (Sealed g.seal) past there))

genuine_from : (setup : Setup) (all past entries : List Entry) → IsGenuine all → all ≡ past ++ entries → EachHappening IsGenuineAt (happenings setup past) (happenings setup entries)
genuine_from setup all past [] g e = tt
genuine_from setup all past (x ∷ entries) g e = (
  one x e,
  subst (λ hs. EachHappening IsGenuineAt hs (happenings setup entries)) (happenings-more setup past (x ∷ [])) (genuine_from setup all (past ++ x ∷ []) entries g (e ∙ sym (append_assoc past (x ∷ []) entries))),
)
  where
    sealed_quiet : (s : SealedEntry) (k : Kind) → IsGenuineAt (happenings setup past) (s.side, sealed_event (extensions_of setup) k s)
    sealed_quiet s Rtp = tt
    sealed_quiet s Rtcp = tt

    one : (x : Entry) → all ≡ past ++ x ∷ entries → IsGenuineAt (happenings setup past) (happening_of (extensions_of setup) x)
    one (Opened o) is = genuine_at setup past o (g past entries o is)
    one (Sealed s) is = sealed_quiet s s.kind
    one (Got g) is = tt
    one (Wrote s t w) is = tt
    one (Ticked s t) is = tt
    one (Called s t c) is = tt
    one (Yielded s p) is = tt

run_genuine : (setup : Setup) (entries : List Entry) → IsGenuine entries → RunGenuine (happenings setup entries)
run_genuine setup entries g = genuine_from setup entries [] entries g refl

-- what is yielded was written

happening_at : (P : List Happening → Happening → Type 0) (past xs : List Happening) (x : Happening) (ys : List Happening) → EachHappening P past (xs ++ x ∷ ys) → P (past ++ xs) x
happening_at P past [] x ys h = subst (λ es. P es x) (sym (append-nil past)) h.0
happening_at P past (z ∷ xs) x ys h = subst (λ es. P es x) (append_assoc past (z ∷ []) xs) (happening_at P (past ++ z ∷ []) xs x ys h.1)

written_by : (side : Side) (r : ℕ) (w : Writing) (entries : List Entry) → IsIn w (writes_on side r entries) → IsIn w (writes_by side entries)
written_by side r w entries i = let f = IsIn-from_flat_map (write_on side r) w entries i in IsIn-flat_map (write_by side) f.0 w entries f.1 (one f.0 f.2)
  where
    one : (x : Entry) → IsIn w (write_on side r x) → IsIn w (write_by side x)
    one (Wrote s t u) j = elim (tested (same_side side s && (u.ssrc == r))) [
      | inl t ↦ let own = (and_parts (same_side side s) (u.ssrc == r) t).0 in rw own (rw t at j)
      | inr t ↦ absurd (rw t at j)
    ]
    one (Ticked s t) j = absurd j
    one (Called s t c) j = absurd j
    one (Got g) j = absurd j
    one (Sealed x) j = absurd j
    one (Opened o) j = absurd j
    one (Yielded s p) j = absurd j

pub yields_writes : {seal : Sealing} {setup : Setup} {a b : Session} {steps : List Step} {entries : List Entry} → IsSound (config_of seal setup) → Plays seal setup a b steps entries → YieldsWrites setup entries
yields_writes {seal} {setup} {a} {b} {entries = entries} sound h genuine widens = EachFrom-places IsOwedTo [] entries (λ front x rest e. place front x rest e)
  where
    place : (front : List Entry) (x : Entry) (rest : List Entry) → entries ≡ front ++ x ∷ rest → IsOwedTo front x
    place front (Yielded side packet) rest e =
        let m = yielded_of sound h side packet (subst (IsIn (Yielded side packet)) (sym e) (IsIn-right (Yielded side packet) front (Yielded side packet ∷ rest) (inl refl))) in
        let all = runs_yield_writes (config_of seal setup) a b (happenings setup entries) sound (as_run h) (run_genuine setup entries genuine) widens side m.0 m.1 in
        let cut : happenings setup entries ≡ happenings setup front ++ (side, yielded packet) ∷ happenings setup rest = ap (happenings setup) e ∙ happenings-more setup front (Yielded side packet ∷ rest) in
        let owed = happening_at (IsOwedAt side (incoming_of m.0)) [] (happenings setup front) (side, yielded packet) (happenings setup rest) (subst (EachHappening (IsOwedAt side (incoming_of m.0)) []) cut all) refl m.2 in
        (owed.0, written_by (peer_of side) m.0.ssrc owed.0 front (subst (IsIn owed.0) (writes_read setup (peer_of side) m.0.ssrc front) owed.1), owed.2)
    place front (Wrote s t w) rest e = tt
    place front (Ticked s t) rest e = tt
    place front (Called s t c) rest e = tt
    place front (Got g) rest e = tt
    place front (Sealed s) rest e = tt
    place front (Opened o) rest e = tt
