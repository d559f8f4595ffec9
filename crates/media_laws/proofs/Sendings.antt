-- Each RTP datagram that is sealed is the first sending of a write, or the repair of one that was sent.
use Rattle.std.proofs.Common.{◌≡◌, ◌⊎◌, inl, inr, ℕ, ◌+◌, ◌%◌, ◌<◌, Bool, true, false, cond, not, ◌&&◌, List, [], ◌∷◌, ◌++◌, map, length, drop, Option, Some, None, refl, sym, ap, ◌∙◌, subst, append_assoc}
use Rattle.std.specs.Prelude.{◌==◌, unwrap_or}
use Rattle.std.specs.List.{AllByRecursion}
use Rattle.std.specs.Option.{option_map}
use Rattle.std.proofs.lemmas.Bool.{and_parts, or_cases, eqb-true, eq-eqb, false≢true}
use Rattle.std.proofs.lemmas.List.{append-nil}
use Rattle.std.proofs.lemmas.List.Concat.{flat_map-append}
use Rattle.rtp_base.specs.declared.kind.Kind.{Kind}
use Rattle.rtp_base.specs.declared.kind.Kind.TheVariants.{Rtp, Rtcp}
use Rattle.rtp_wire.specs.Header.{header_bytes}
use Rattle.media_model.specs.declared.entry.Side.{Side}
use Rattle.media_model.specs.declared.entry.Write.{Write as Writing}
use Rattle.media_model.specs.declared.entry.Got.{Got as GotEntry}
use Rattle.media_model.specs.declared.entry.Sealed.{Sealed as SealedEntry}
use Rattle.media_model.specs.declared.entry.Opened.{Opened as OpenedEntry}
use Rattle.media_model.specs.declared.entry.Entry.{Entry}
use Rattle.media_model.specs.declared.entry.Entry.TheVariants.{Wrote, Ticked, Called, Got, Sealed, Opened, Yielded}
use Rattle.media_model.specs.declared.step.Step.{Step}
use Rattle.media_model.specs.declared.setup.Setup.{Setup}
use Rattle.media_model.specs.Entries.{writes_on, write_on, sealed_number_on, sealed_numbers, nonce_by, nonces}
use Rattle.media_model.specs.Sides.{same_side}
use Rattle.rtp_base.specs.Kind.{same_kind}
use Rattle.run_model.specs.Events.{Plain, Event, sealed, Types, Outgoing}
use Rattle.run_model.specs.Listing.{IsIn, NoRepeat}
use Rattle.run_model.specs.Runs.{Happening, event_of, on_side}
use Rattle.run_model.specs.Sending.{nothing_sent, Sendings, sendings, sending_of, sending_on, repair_on, repairs, first_sendings, is_cached, Carries as Repairs, Carry, nothing, one as and_one, Answers as Answering, AnswersPartly as AnsweringPartly}
use Rattle.run_model.specs.Tables.{has as has_ssrc}
use Rattle.run_model.specs.Transcripts.{plain_in, plain_of, no_plain, sealed_event, opened_event, happening_of, happenings, types_of, outgoing_of}
use Rattle.run_model.specs.TxLaws.{SendsWrites as StreamSends}
use Rattle.run_model.specs.TxPlay.{TxRecord}
use Rattle.run_model.specs.Whole.{IsSound, Session, Counts, Ends, at_step}
use Rattle.media_laws.proofs.Lists.{leaves_where, IsIn-left, IsIn-right, IsIn-append, IsIn-map, IsIn-from_map, IsIn-flat_map, IsIn-from_flat_map, IsIn-from_filter, in-from_any, tested}
use Rattle.media_laws.proofs.TxPlays.{ends_follow, writes_are, streams_send_writes}
use Rattle.media_laws.proofs.Whole.{runs_repeat_no_nonce}
use Rattle.media_laws.proofs.Indices.{runs_repeat_no_index}
use Rattle.media_laws.specs.Config.{config_of}
use Rattle.media_laws.specs.Headline.{past_of, NoNonceTwice, IsSending, IsRepair, IsSentWrite, SendsWrites, TickAnswers, TickAnswersPartly}
use Rattle.media_laws.specs.Opening.{Sealing}
use Rattle.media_laws.specs.Plain.{extensions_of, Carries}
use Rattle.media_laws.specs.Play.{IsBroughtBy, AreEntriesOf, wrote, ticked, called, requested, got, Plays}
use Rattle.media_laws.specs.Right.{IsSealOf, IsRight, right_rtp, right_rtcp, IsRightSeal}
use Rattle.media_laws.proofs.Playing.{packet_right, EachFrom-append, EachFrom-places, as_run, Taken, plays_more, each_taken, tick_answers}
use Rattle.media_laws.proofs.Readings.{is_same, sealed_from, sealed_happens, writes_read, number_in, number_nonce, nonces_once}
use Rattle.media_laws.proofs.Soundness.{apart_ends}
use Rattle.media_laws.proofs.Streams.{ends_at, apart_at, repair_numbers, numbers_more, repairs_count, counts_at}
use Rattle.media_laws.proofs.TxTracks.{numbers}
use Rattle.rtp_base.specs.Window.{is_just}

-- a run, as it is read, that ended after a step or within a tick
abbrev pub AsEnded : Sealing → Setup → List Entry → Type 0
AsEnded seal setup entries = Ends (config_of seal setup) (happenings setup entries)

pub as_ended : {seal : Sealing} {setup : Setup} {a b : Session} {steps : List Step} {entries : List Entry} → Plays seal setup a b steps entries → AsEnded seal setup entries
as_ended h = at_step (as_run h)

pub no_nonce_twice : {seal : Sealing} {setup : Setup} → IsSound (config_of seal setup) → (entries : List Entry) → AsEnded seal setup entries → NoNonceTwice entries
no_nonce_twice {seal} {setup} sound entries h side =
    nonces_once setup side entries
    (runs_repeat_no_nonce (config_of seal setup) (happenings setup entries) sound h side) (runs_repeat_no_index (config_of seal setup) (happenings setup entries) h side)

not_both : Rtp ≡ Rtcp → ⊥
not_both e = cc

-- what an RTP seal reads as

pub right_kind : {seal : Sealing} {setup : Setup} {s : SealedEntry} → s.kind ≡ Rtp → IsRight seal setup s → IsSealOf seal setup s
right_kind rtp (right_rtp r) = r
right_kind rtp (right_rtcp r) = let k = r.rtcp in absurd cc

module _ {seal : Sealing} {setup : Setup} (s : SealedEntry) (r : IsSealOf seal setup s) where
  pub plain_is : plain_in (extensions_of setup) s.plain ≡ plain_of r.header s.plain
  plain_is = ap (λ o. unwrap_or (option_map (λ h. plain_of h s.plain) o) no_plain) r.reads

  pub unpadded_plain : (plain_in (extensions_of setup) s.plain).padded ≡ false
  unpadded_plain = ap (λ (p : Plain). p.padded) plain_is ∙ r.not_filler

  -- one that reads as a write carries it
  pub carries_write : (w : Writing) → s.ssrc ≡ w.ssrc → s.index ≡ w.number → plain_in (extensions_of setup) s.plain ≡ sending_of w → Carries (extensions_of setup) s.plain w
  carries_write w ssrc number is =
      let e : plain_of r.header s.plain ≡ sending_of w = sym plain_is ∙ is in
      let payload : drop r.header.header_len s.plain ≡ w.payload = ap (λ (p : Plain). p.payload) e in
      record {
        header = r.header;
        reads = r.reads;
        ssrc = r.source ∙ ssrc;
        low = r.low ∙ ap (λ n. n % 65536) number;
        type = ap (λ (p : Plain). p.pt) e;
        time = ap (λ (p : Plain). p.time) e;
        marker = ap (λ (p : Plain). p.marker) e;
        no_padding = r.not_filler;
        few = r.few;
        sources = ap (λ (p : Plain). p.csrc) e;
        payload = payload;
        sealed = r.sealed_header;
        wire = r.wire;
        written = r.written ∙ ap (λ l. header_bytes (extensions_of setup) r.sealed_header ++ l) payload;
      }

-- which of them are sealed

pub in_all : (seal : Sealing) (setup : Setup) (es : List Entry) (s : SealedEntry) → AllByRecursion (IsRightSeal seal setup) es → IsIn (Sealed s) es → IsRight seal setup s
in_all seal setup [] s h i = absurd i
in_all seal setup (e ∷ es) s h (inl is) = subst (IsRightSeal seal setup) (sym is) h.0
in_all seal setup (e ∷ es) s h (inr i) = in_all seal setup es s h.1 i

brings_no_seal : (seal : Sealing) (setup : Setup) (came : GotEntry) (es : List Entry) (s : SealedEntry) → AllByRecursion (IsBroughtBy seal setup came) es → IsIn (Sealed s) es → ⊥
brings_no_seal seal setup came [] s h i = i
brings_no_seal seal setup came (e ∷ es) s h (inl is) = subst (IsBroughtBy seal setup came) (sym is) h.0
brings_no_seal seal setup came (e ∷ es) s h (inr i) = brings_no_seal seal setup came es s h.1 i

-- all that is sealed so far is right
abbrev pub AllRight : Sealing → Setup → List Entry → Type 0
AllRight seal setup entries = (s : SealedEntry) → IsIn (Sealed s) entries → IsRight seal setup s

pub all_right : {seal : Sealing} {setup : Setup} {a b : Session} {steps : List Step} {entries : List Entry} → Plays seal setup a b steps entries → AllRight seal setup entries
all_right {seal} {setup} h = each_taken (AllRight seal setup) (λ s i. absurd i) (λ past side step new t each s i. elim (IsIn-append (Sealed s) past new i) [ inl j ↦ each s j | inr j ↦ right_new t.outcome.are_of s j ]) h
  where
    right_new : {past : List Entry} {side : Side} {step : Step} {new : List Entry} → AreEntriesOf seal setup past side step new → (s : SealedEntry) → IsIn (Sealed s) new → IsRight seal setup s
    right_new (wrote side time w a b c) s i = absurd (elim i [ inl e ↦ cc e | inr j ↦ j ])
    right_new (ticked side time all h) s (inl e) = absurd (cc e)
    right_new (ticked side time all h) s (inr i) = in_all seal setup all s h i
    right_new (called side time sender media payload x is) s (inl e) = absurd (cc e)
    right_new (called side time sender media payload x is) s (inr (inl e)) = let same : s ≡ x = cc e in subst (IsRight seal setup) (sym same) (packet_right is)
    right_new (called side time sender media payload x is) s (inr (inr i)) = absurd i
    right_new (requested side time c by quiet) s i = absurd (elim i [ inl e ↦ cc e | inr j ↦ j ])
    right_new (got came brought at h) s (inl e) = absurd (cc e)
    right_new (got came brought at h) s (inr i) = absurd (brings_no_seal seal setup came brought s h i)

-- the numbers of repairs

eqb-turned : (a b : ℕ) → (a == b) ≡ (b == a)
eqb-turned a b = elim (tested (a == b)) [
  | inl t ↦ t ∙ sym (eq-eqb b a (sym (eqb-true a b t)))
  | inr t ↦ elim (tested (b == a)) [ inl u ↦ absurd (false≢true (sym t ∙ eq-eqb a b (sym (eqb-true b a u)))) | inr u ↦ t ∙ sym u ]
]

module _ (seal : Sealing) (setup : Setup) (side : Side) (L : Outgoing) (x : ℕ) (own : L.rtx ≡ Some x) where
  one_number : (s : SealedEntry) → IsRight seal setup s → (b : Bool) (k : Kind) → s.kind ≡ k
      → cond (b && (same_kind Rtp k && (s.ssrc == x))) (s.index ∷ []) [] ≡ repair_numbers L (cond b (sealed_event (extensions_of setup) k s ∷ []) [])
  one_number s right false k is = refl
  one_number s right true Rtcp is = refl
  one_number s right true Rtp is =
      let bare : (plain_in (extensions_of setup) s.plain).padded ≡ false = unpadded_plain s (right_kind is right) in
      let mine : is_just s.ssrc L.rtx ≡ (s.ssrc == x) = ap (is_just s.ssrc) own ∙ eqb-turned x s.ssrc in
      elim (tested (s.ssrc == x)) [
        | inl t ↦ rw (t, mine ∙ t, bare) refl
        | inr t ↦ rw (t, mine ∙ t) refl
      ]

  no_number : (b : Bool) (e : Event) → repair_on L e ≡ [] → [] ≡ repair_numbers L (cond b (e ∷ []) [])
  no_number true e none = ap (λ (ps : List (ℕ × Plain)). map (λ z. z.0) (ps ++ [])) (sym none)
  no_number false e none = refl

  pub numbers_read : (entries : List Entry) → AllRight seal setup entries → sealed_numbers side x entries ≡ repair_numbers L (past_of setup side entries)
  numbers_read [] right = refl
  numbers_read (e ∷ entries) right =
      (λ k. one e (right) k ++ numbers_read entries (λ s i. right s (inr i)) k)
      ∙ sym (numbers_more L (event_of side (happening_of (extensions_of setup) e)) (past_of setup side entries))
    where
      opened_quiet : (o : OpenedEntry) (k : Kind) → repair_on L (opened_event (extensions_of setup) k o) ≡ []
      opened_quiet o Rtp = refl
      opened_quiet o Rtcp = refl

      one : (e : Entry) → ((s : SealedEntry) → IsIn (Sealed s) (e ∷ entries) → IsRight seal setup s) → sealed_number_on side x e ≡ repair_numbers L (event_of side (happening_of (extensions_of setup) e))
      one (Sealed s) r = one_number s (r s (inl refl)) (same_side side s.side) s.kind refl
      one (Wrote s t w) r = no_number (same_side side s) _ refl
      one (Ticked s t) r = no_number (same_side side s) _ refl
      one (Called s t c) r = no_number (same_side side s) _ refl
      one (Got g) r = no_number (same_side side g.side) _ refl
      one (Opened o) r = no_number (same_side side o.side) _ (opened_quiet o o.kind)
      one (Yielded s p) r = no_number (same_side side s) _ refl

-- what a stream sent among the entries of a run
pub record Sent (setup : Setup) (side : Side) (L : Outgoing) (entries : List Entry) : Type 0 where
  pub t : TxRecord
  pub law : StreamSends (types_of setup) L t (past_of setup side entries)
  pub counts : Counts L.start (repair_numbers L (past_of setup side entries)) t.next_rtx
  pub distinct : NoRepeat (numbers (writes_on side L.ssrc entries))

pub sent_at : {seal : Sealing} {setup : Setup} {entries : List Entry} → IsSound (config_of seal setup) → AsEnded seal setup entries
    → (side : Side) (L : Outgoing) → IsIn L (outgoing_of side setup) → Sent setup side L entries
sent_at {seal} {setup} {entries} sound h side L i =
    let p = ends_at sound h side L i in
    let apart = apart_at sound side L i in
    record {
      t = p.0;
      law = streams_send_writes (types_of setup) L ((config_of seal setup).seals side) p.0 (past_of setup side entries) apart p.1;
      counts = repairs_count apart p.1;
      distinct =
          let f = ends_follow apart p.1 in
          subst NoRepeat (f.written ∙ ap numbers (writes_are L.ssrc (past_of setup side entries) nothing_sent ∙ writes_read setup side L.ssrc entries)) f.once;
    }

-- a write that was sent, or that waits, was written
waits_written : {setup : Setup} {side : Side} {L : Outgoing} {entries : List Entry} (s : Sent setup side L entries) (w : Writing) → IsIn w (sendings L.ssrc (past_of setup side entries)).waiting → IsIn w (writes_on side L.ssrc entries)
waits_written {setup} {side} {L} {entries} s w i =
    subst (IsIn w) (sym s.law.in_order ∙ writes_read setup side L.ssrc entries) (IsIn-right w (map (λ x. x.1) (sendings L.ssrc (past_of setup side entries)).sent) (sendings L.ssrc (past_of setup side entries)).waiting i)

pub sent_written : {setup : Setup} {side : Side} {L : Outgoing} {entries : List Entry} (s : Sent setup side L entries) (x : ℕ × Writing) → IsIn x (sendings L.ssrc (past_of setup side entries)).sent → IsIn x.1 (writes_on side L.ssrc entries)
sent_written {setup} {side} {L} {entries} s x i =
    subst (IsIn x.1) (sym s.law.in_order ∙ writes_read setup side L.ssrc entries)
    (IsIn-left x.1 (map (λ z. z.1) (sendings L.ssrc (past_of setup side entries)).sent) (sendings L.ssrc (past_of setup side entries)).waiting (IsIn-map (λ (z : ℕ × Writing). z.1) x (sendings L.ssrc (past_of setup side entries)).sent i))

-- its number was sealed
sending_of_event : (m n : ℕ) (p : Plain) (e : Event) → IsIn {X = ℕ × Plain} (n, p) (sending_on m e) → (bytes : List ℕ) × (e ≡ sealed m n p bytes)
sending_of_event m n p (sealed r k q bytes) i = elim (tested ((r == m) && not q.padded)) [
  | inl t ↦ elim (rw t at i) [
    | inl e ↦ let a = eqb-true r m (and_parts (r == m) (not q.padded) t).0 in
        (bytes, λ j. sealed (a j) (sym (ap (λ (z : ℕ × Plain). z.0) e) j) (sym (ap (λ (z : ℕ × Plain). z.1) e) j) bytes)
    | inr none ↦ absurd none
  ]
  | inr t ↦ absurd (rw t at i)
]
sending_of_event m n p _ i = absurd i

sent_number : {setup : Setup} {side : Side} {L : Outgoing} {entries : List Entry} (s : Sent setup side L entries) (x : ℕ × Writing) → IsIn x (sendings L.ssrc (past_of setup side entries)).sent → IsIn x.1.number (sealed_numbers side L.ssrc entries)
sent_number {setup} {side} {L} {entries} s x i =
    let first : IsIn {X = ℕ × Plain} (x.1.number, sending_of x.1) (first_sendings L.ssrc (past_of setup side entries)) =
    subst (IsIn {X = ℕ × Plain} (x.1.number, sending_of x.1)) (sym s.law.sent) (IsIn-map (λ (z : ℕ × Writing). (z.1.number, sending_of z.1)) x (sendings L.ssrc (past_of setup side entries)).sent i) in
    let f = IsIn-from_flat_map (sending_on L.ssrc) (x.1.number, sending_of x.1) (past_of setup side entries) first in
    let e = sending_of_event L.ssrc x.1.number (sending_of x.1) f.0 f.2 in
    let there = sealed_from setup side L.ssrc x.1.number (sending_of x.1) e.0 entries (subst (λ g. IsIn g (past_of setup side entries)) e.1 f.1) in
    subst (λ n. IsIn n (sealed_numbers side L.ssrc entries)) there.index (number_in side L.ssrc there.entry entries there.there there.side_is there.kind there.ssrc)

-- a repair carries a write of the list
carried_by : {T : Types} {sent : List (ℕ × Writing)} {ps : List (ℕ × Plain)} {ns : List ℕ} → Carry T sent ps ns → (z : ℕ × Plain) → IsIn z ps → (x : ℕ × Writing) × IsIn x sent × Repairs T z.1 x.1
carried_by nothing z i = absurd i
carried_by {T} (and_one j n p x there number carries rest) z (inl e) = (x, there, subst (λ (q : ℕ × Plain). Repairs T q.1 x.1) (sym e) carries)
carried_by (and_one j n p x there number carries rest) z (inr i) = carried_by rest z i

-- a write of an SSRC has it
pub write_ssrc : (side : Side) (r : ℕ) (w : Writing) (entries : List Entry) → IsIn w (writes_on side r entries) → w.ssrc ≡ r
write_ssrc side r w entries i = let f = IsIn-from_flat_map (write_on side r) w entries i in one f.0 f.2
  where
    one : (x : Entry) → IsIn w (write_on side r x) → w.ssrc ≡ r
    one (Wrote s t u) j = elim (tested (same_side side s && (u.ssrc == r))) [
      | inl t ↦ elim (rw t at j) [ inl e ↦ ap (λ (v : Writing). v.ssrc) e ∙ eqb-true u.ssrc r (and_parts (same_side side s) (u.ssrc == r) t).1 | inr none ↦ absurd none ]
      | inr t ↦ absurd (rw t at j)
    ]
    one (Ticked s t) j = absurd j
    one (Called s t c) j = absurd j
    one (Got g) j = absurd j
    one (Sealed x) j = absurd j
    one (Opened o) j = absurd j
    one (Yielded s p) j = absurd j

pub writes_more : (side : Side) (r : ℕ) (w : Writing) (xs ys : List Entry) → IsIn w (writes_on side r xs) → IsIn w (writes_on side r (xs ++ ys))
writes_more side r w xs ys i = subst (IsIn w) (sym (flat_map-append (write_on side r) xs ys)) (IsIn-left w (writes_on side r xs) (writes_on side r ys) i)

numbers_more_in : (side : Side) (r n : ℕ) (xs ys : List Entry) → IsIn n (sealed_numbers side r xs) → IsIn n (sealed_numbers side r (xs ++ ys))
numbers_more_in side r n xs ys i = subst (IsIn n) (sym (flat_map-append (sealed_number_on side r) xs ys)) (IsIn-left n (sealed_numbers side r xs) (sealed_numbers side r ys) i)

-- a number is not sealed again
not_again : (s : SealedEntry) (front rest : List Entry) → s.kind ≡ Rtp → NoRepeat (nonces s.side (front ++ Sealed s ∷ rest)) → IsIn s.index (sealed_numbers s.side s.ssrc front) → ⊥
not_again s front rest rtp once i =
    let own : IsIn {X = Kind × ℕ × ℕ} (Rtp, s.ssrc, s.index) (nonces s.side (Sealed s ∷ rest)) =
    IsIn-left {X = Kind × ℕ × ℕ} (Rtp, s.ssrc, s.index) (nonce_by s.side (Sealed s)) (nonces s.side rest)
    (subst (λ b. IsIn {X = Kind × ℕ × ℕ} (Rtp, s.ssrc, s.index) (cond b ((s.kind, s.ssrc, s.index) ∷ []) [])) (sym (is_same s.side s.side refl)) (inl (λ k. (sym rtp k, s.ssrc, s.index)))) in
    apart_ends (nonces s.side front) (nonces s.side (Sealed s ∷ rest)) (Rtp, s.ssrc, s.index) (subst NoRepeat (flat_map-append (nonce_by s.side) front (Sealed s ∷ rest)) once) (number_nonce s.side s.ssrc s.index front i) own

-- an entry that is read on a side is of that side
read_side : (setup : Setup) (side : Side) (new : List Event) (es : List Entry) (s : SealedEntry) → s.kind ≡ Rtp → happenings setup es ≡ on_side side new → IsIn (Sealed s) es
    → (s.side ≡ side) × IsIn (sealed s.ssrc s.index (plain_in (extensions_of setup) s.plain) s.bytes) new
read_side setup side new es s rtp read i =
    let h = subst (IsIn (happening_of (extensions_of setup) (Sealed s))) read (IsIn-map (happening_of (extensions_of setup)) (Sealed s) es i) in
    let f = IsIn-from_map (λ (e : Event). (side, e)) (happening_of (extensions_of setup) (Sealed s)) new h in
    let e : (s.side, sealed s.ssrc s.index (plain_in (extensions_of setup) s.plain) s.bytes) ≡ (side, f.0) = sym (sealed_happens setup s rtp) ∙ f.2 in
    (ap (λ (z : Happening). z.0) e, subst (λ g. IsIn g new) (ap (λ (z : Happening). z.1) (sym e)) f.1)

pub sending_there : (m r n : ℕ) (p : Plain) (bytes : List ℕ) → (r == m) ≡ true → p.padded ≡ false → IsIn {X = ℕ × Plain} (n, p) (sending_on m (sealed r n p bytes))
sending_there m r n p bytes main bare = rw (main, bare) (inl refl)

repair_there : (L : Outgoing) (r n : ℕ) (p : Plain) (bytes : List ℕ) → is_just r L.rtx ≡ true → p.padded ≡ false → IsIn {X = ℕ × Plain} (n, p) (repair_on L (sealed r n p bytes))
repair_there L r n p bytes own bare = rw (own, bare) (inl refl)

just_is : (n : ℕ) (o : Option ℕ) → is_just n o ≡ true → o ≡ Some n
just_is n None e = absurd (false≢true e)
just_is n (Some x) e = ap (λ m. Some m) (eqb-true x n e)

-- a datagram of a tick
module _ {seal : Sealing} {setup : Setup} {side : Side} (past front : List Entry) (s : SealedEntry) (rtp : s.kind ≡ Rtp) (r : IsSealOf seal setup s) (own : s.side ≡ side)
    (L : Outgoing) (sent : Sent setup side L past) (new : List Event) (a : AnsweringPartly (types_of setup) L (sendings L.ssrc (past_of setup side past)) new)
    (there : IsIn (sealed s.ssrc s.index (plain_in (extensions_of setup) s.plain) s.bytes) new) where
  abbrev p : Plain
  p = plain_in (extensions_of setup) s.plain

  of_first : (s.ssrc == L.ssrc) ≡ true → (IsIn s.index (sealed_numbers s.side s.ssrc (past ++ front)) → ⊥) → IsSending setup (past ++ front) s
  of_first main again =
      let among : IsIn {X = ℕ × Plain} (s.index, p) (first_sendings L.ssrc new) =
      IsIn-flat_map (sending_on L.ssrc) (sealed s.ssrc s.index p s.bytes) (s.index, p) new there (sending_there L.ssrc s.ssrc s.index p s.bytes main (unpadded_plain s r)) in
      let f = IsIn-from_map (λ (w : Writing). (w.number, sending_of w)) (s.index, p) a.gone (subst (IsIn {X = ℕ × Plain} (s.index, p)) a.sendings among) in
      let w = f.0 in
      let ssrc : s.ssrc ≡ L.ssrc = eqb-true s.ssrc L.ssrc main in
      let written : IsIn w (writes_on side L.ssrc past) = waits_written sent w (subst (IsIn w) (sym a.waiting) (IsIn-left w a.gone a.left f.1)) in
      let number : s.index ≡ w.number = ap (λ (z : ℕ × Plain). z.0) f.2 in
      record {
        write = w;
        earlier = subst (λ z. IsIn w (writes_on z s.ssrc (past ++ front))) (sym own) (subst (λ q. IsIn w (writes_on side q (past ++ front))) (sym ssrc) (writes_more side L.ssrc w past front written));
        number = number;
        carried = carries_write s r w (ssrc ∙ sym (write_ssrc side L.ssrc w past written)) number (ap (λ (z : ℕ × Plain). z.1) f.2);
        first = again;
      }

  of_repair : IsIn L (outgoing_of side setup) → is_just s.ssrc L.rtx ≡ true → s.index ≡ L.start + length (sealed_numbers side s.ssrc (past ++ front)) → IsRepair setup (past ++ front) s
  of_repair i rtx index =
      let among : IsIn {X = ℕ × Plain} (s.index, p) (repairs L new) =
      IsIn-flat_map (repair_on L) (sealed s.ssrc s.index p s.bytes) (s.index, p) new there (repair_there L s.ssrc s.index p s.bytes rtx (unpadded_plain s r)) in
      let f = carried_by a.carry (s.index, p) among in
      let x = f.0 in
      let w : Writing = x.1 in
      let c = f.2 in
      let was : IsIn x (sendings L.ssrc (past_of setup side past)).sent = (IsIn-from_filter (λ (z : ℕ × Writing). is_cached (types_of setup) L z.1) x (sendings L.ssrc (past_of setup side past)).sent f.1).0 in
      let e : plain_of r.header s.plain ≡ p = sym (plain_is s r) in
      record {
        line = L;
        of_side = subst (λ z. IsIn L (outgoing_of z setup)) (sym own) i;
        source = just_is s.ssrc L.rtx rtx;
        index = subst (λ z. s.index ≡ L.start + length (sealed_numbers z s.ssrc (past ++ front))) (sym own) index;
        write = w;
        earlier = subst (λ z. IsIn w (writes_on z L.ssrc (past ++ front))) (sym own) (writes_more side L.ssrc w past front (sent_written sent x was));
        sent = subst (λ z. IsIn w.number (sealed_numbers z L.ssrc (past ++ front))) (sym own) (numbers_more_in side L.ssrc w.number past front (sent_number sent x was));
        header = r.header;
        reads = r.reads;
        type = c.type ∙ ap (λ (q : Plain). Some q.pt) (sym e);
        time = ap (λ (q : Plain). q.time) e ∙ c.time;
        marker = ap (λ (q : Plain). q.marker) e ∙ c.marker;
        sources = ap (λ (q : Plain). q.csrc) e ∙ c.csrc;
        payload = ap (λ (q : Plain). q.payload) e ∙ c.payload;
      }

-- the number of a repair is that of the first one and how many there were before
index_is : (seal : Sealing) (setup : Setup) (side : Side) (L : Outgoing) (front rest : List Entry) (s : SealedEntry) → s.kind ≡ Rtp → s.side ≡ side → is_just s.ssrc L.rtx ≡ true
    → Sent setup side L (front ++ Sealed s ∷ rest) → AllRight seal setup (front ++ Sealed s ∷ rest) → s.index ≡ L.start + length (sealed_numbers side s.ssrc front)
index_is seal setup side L front rest s rtp own rtx sent right =
    let all : sealed_numbers side s.ssrc (front ++ Sealed s ∷ rest) ≡ repair_numbers L (past_of setup side (front ++ Sealed s ∷ rest)) =
    numbers_read seal setup side L s.ssrc (just_is s.ssrc L.rtx rtx) (front ++ Sealed s ∷ rest) right in
    let test : (same_side side s.side && (same_kind Rtp s.kind && (s.ssrc == s.ssrc))) ≡ true =
    (λ k. same_side side (own k) && (same_kind Rtp (rtp k) && eq-eqb s.ssrc s.ssrc refl k)) ∙ ap (λ b. b && true) (is_same side side refl) in
    let cut : sealed_numbers side s.ssrc (front ++ Sealed s ∷ rest) ≡ sealed_numbers side s.ssrc front ++ s.index ∷ sealed_numbers side s.ssrc rest =
    flat_map-append (sealed_number_on side s.ssrc) front (Sealed s ∷ rest) ∙ ap (λ b. sealed_numbers side s.ssrc front ++ (cond b (s.index ∷ []) [] ++ sealed_numbers side s.ssrc rest)) test in
    counts_at L.start (sealed_numbers side s.ssrc front) s.index (sealed_numbers side s.ssrc rest) sent.t.next_rtx (subst (λ ns. Counts L.start ns sent.t.next_rtx) (sym all ∙ cut) sent.counts)

-- a tick that is not cut off answers in part, too
partly : {T : Types} {L : Outgoing} {C : Type 0} {s : Sendings} {new : List Event} → Answering T L C s new → AnsweringPartly T L s new
partly {s = s} a = record {
  gone = s.waiting;
  left = [];
  waiting = sym (append-nil s.waiting);
  sendings = a.sendings;
  last = a.last;
  is_last = a.is_last;
  answered = a.answered;
  carry = a.carry;
  among = leaves_where (λ n none. absurd none) a.keeps;
}

partly_of : {seal : Sealing} {setup : Setup} {side : Side} {past : List Entry} {time : ℕ} {chunk : List Entry} → TickAnswers seal setup side past time chunk → TickAnswersPartly seal setup side past chunk
partly_of a = record { only = a.only; new = a.new; read = a.read; answers = λ L i. partly (a.answers L i) }

module _ {seal : Sealing} {setup : Setup} (sound : IsSound (config_of seal setup)) (past front : List Entry) (s : SealedEntry) (rest : List Entry) (rtp : s.kind ≡ Rtp) where
  -- also of one that is cut off
  pub of_tick : {side : Side} (time : ℕ) (all : List Entry) → Ticked side time ∷ all ≡ front ++ Sealed s ∷ rest → TickAnswersPartly seal setup side past all
      → AsEnded seal setup past → AsEnded seal setup (past ++ Ticked side time ∷ all) → AllRight seal setup (past ++ Ticked side time ∷ all)
      → IsIn (Sealed s) all → IsSending setup (past ++ front) s ⊎ IsRepair setup (past ++ front) s
  of_tick {side} time all is a before later right i =
      let read = read_side setup side a.new all s rtp a.read i in
      let r : IsSealOf seal setup s = right_kind rtp (in_all seal setup all s a.only i) in
      let L = in-from_any (λ K. has_ssrc K s.ssrc) (outgoing_of s.side setup) r.stream in
      let at : IsIn L.0 (outgoing_of side setup) = subst (λ z. IsIn L.0 (outgoing_of z setup)) read.0 L.1 in
      let whole : past ++ (Ticked side time ∷ all) ≡ (past ++ front) ++ Sealed s ∷ rest = ap (λ es. past ++ es) is ∙ sym (append_assoc past front (Sealed s ∷ rest)) in
      elim (or_cases (s.ssrc == L.0.ssrc) (is_just s.ssrc L.0.rtx) L.2) [
        | inl main ↦ inl (of_first past front s rtp r read.0 L.0 (sent_at sound before side L.0 at) a.new (a.answers L.0 at) read.1 main
            (not_again s (past ++ front) rest rtp (subst (λ es. NoRepeat (nonces s.side es)) whole (no_nonce_twice sound (past ++ Ticked side time ∷ all) later s.side))))
        | inr rtx ↦ inr (of_repair past front s rtp r read.0 L.0 (sent_at sound before side L.0 at) a.new (a.answers L.0 at) read.1 at rtx
            (index_is seal setup side L.0 (past ++ front) rest s rtp read.0 rtx (subst (Sent setup side L.0) whole (sent_at sound later side L.0 at)) (subst (AllRight seal setup) whole right)))
      ]

  pub there_in : (new : List Entry) → new ≡ front ++ Sealed s ∷ rest → IsIn (Sealed s) new
  there_in new is = subst (IsIn (Sealed s)) (sym is) (IsIn-right (Sealed s) front (Sealed s ∷ rest) (inl refl))

  of_step : {side : Side} {step : Step} {new : List Entry} → AreEntriesOf seal setup past side step new → Taken seal setup past side step new → new ≡ front ++ Sealed s ∷ rest
      → IsSending setup (past ++ front) s ⊎ IsRepair setup (past ++ front) s
  of_step (wrote side time w a b c) t is = absurd (elim (there_in _ is) [ inl e ↦ cc e | inr j ↦ j ])
  of_step (ticked side time all right) t is =
      let later = (plays_more side t).3 in
      elim (there_in _ is) [ inl e ↦ absurd (cc e) | inr j ↦ of_tick time all is (partly_of (tick_answers sound right t)) (as_ended t.plays) (as_ended later) (all_right later) j ]
  of_step (called side time sender media payload x seals) t is = absurd (elim (there_in _ is) [
    | inl e ↦ cc e
    | inr j ↦ elim j [ inl e ↦ let same : s ≡ x = cc e in not_both (sym rtp ∙ ap (λ (y : SealedEntry). y.kind) same ∙ seals.kind) | inr k ↦ k ]
  ])
  of_step (requested side time c by quiet) t is = absurd (elim (there_in _ is) [ inl e ↦ cc e | inr j ↦ j ])
  of_step (got came brought at all) t is = absurd (elim (there_in _ is) [ inl e ↦ cc e | inr j ↦ brings_no_seal seal setup came brought s all j ])

pub sends_writes : {seal : Sealing} {setup : Setup} {a b : Session} {steps : List Step} {entries : List Entry} → IsSound (config_of seal setup) → Plays seal setup a b steps entries → SendsWrites setup entries
sends_writes {seal} {setup} sound h =
    each_taken (SendsWrites setup) tt
    (λ past side step new t each. EachFrom-append (IsSentWrite setup) [] past new each (EachFrom-places (IsSentWrite setup) past new (λ front x rest e. place past side step new t front x rest e))) h
  where
    place : (past : List Entry) (side : Side) (step : Step) (new : List Entry) → Taken seal setup past side step new → (front : List Entry) (x : Entry) (rest : List Entry) → new ≡ front ++ x ∷ rest
        → IsSentWrite setup (past ++ front) x
    place past side step new t front (Sealed s) rest e = λ rtp. of_step sound past front s rest rtp t.outcome.are_of t e
    place past side step new t front (Wrote s u w) rest e = tt
    place past side step new t front (Ticked s u) rest e = tt
    place past side step new t front (Called s u c) rest e = tt
    place past side step new t front (Got g) rest e = tt
    place past side step new t front (Opened o) rest e = tt
    place past side step new t front (Yielded s p) rest e = tt
