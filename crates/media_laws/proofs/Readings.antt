-- What is read off entries, and off the events as which they are read.
use Rattle.std.proofs.Common.{◌≡◌, inl, inr, ℕ, Bool, true, false, cond, ◌&&◌, List, [], ◌∷◌, ◌++◌, refl, sym, ap, ◌∙◌, subst}
use Rattle.std.specs.Prelude.{◌==◌, filter}
use Rattle.std.specs.List.{flat_map}
use Rattle.std.proofs.lemmas.Bool.{and_parts, eqb-true, eq-eqb, false≢true}
use Rattle.std.proofs.lemmas.List.Concat.{flat_map-append}
use Rattle.rtp_base.specs.declared.kind.Kind.{Kind}
use Rattle.rtp_base.specs.declared.kind.Kind.TheVariants.{Rtp, Rtcp}
use Rattle.rtp_base.specs.Kind.{same_kind}
use Rattle.rtcp_wire.specs.declared.rtcp_fb.RtcpFb.{RtcpFb}
use Rattle.rtp_wire.specs.declared.extension.ExtensionMap.{ExtensionMap}
use Rattle.media_model.specs.declared.entry.Side.{Side}
use Rattle.media_model.specs.declared.entry.Side.TheVariants.{A, B}
use Rattle.media_model.specs.declared.entry.Sealed.{Sealed as SealedEntry}
use Rattle.media_model.specs.declared.entry.Opened.{Opened as OpenedEntry}
use Rattle.media_model.specs.declared.entry.Entry.{Entry}
use Rattle.media_model.specs.declared.entry.Entry.TheVariants.{Wrote, Ticked, Called, Got, Sealed, Opened, Yielded}
use Rattle.media_model.specs.declared.setup.Setup.{Setup}
use Rattle.media_model.specs.Entries.{writes_on, sealed_number_on, sealed_numbers, srtcp_index_by, srtcp_indices, nonce_by, nonces, packets}
use Rattle.media_model.specs.Sides.{same_side}
use Rattle.run_model.specs.Events.{Plain, Event, wrote, ticked, called, got, sealed, opened, opened_items, yielded, Incoming}
use Rattle.run_model.specs.Listing.{IsIn, NoRepeat}
use Rattle.run_model.specs.Receiving.{packet_on, packets_on}
use Rattle.run_model.specs.Runs.{Happening, event_of}
use Rattle.run_model.specs.Sending.{write_on as event_write, writes_on as event_writes}
use Rattle.run_model.specs.Tables.{nonce_of, nonces as event_nonces}
use Rattle.run_model.specs.Transcripts.{plain_in, sealed_event, opened_event, happening_of, happenings}
use Rattle.run_model.specs.Whole.{index_of, indices}
use Rattle.media_laws.proofs.Lists.{IsIn-map, IsIn-from_map, IsIn-flat_map, IsIn-from_flat_map, tested}
use Rattle.media_laws.specs.Headline.{past_of}
use Rattle.media_laws.specs.Plain.{extensions_of}

pub same_is : (a b : Side) → same_side a b ≡ true → a ≡ b
same_is A A e = refl
same_is A B e = absurd (false≢true e)
same_is B A e = absurd (false≢true e)
same_is B B e = refl

pub is_same : (a b : Side) → a ≡ b → same_side a b ≡ true
is_same A A e = refl
is_same A B e = absurd cc
is_same B A e = absurd cc
is_same B B e = refl

kind_is : (k : Kind) → same_kind Rtp k ≡ true → k ≡ Rtp
kind_is Rtp e = refl
kind_is Rtcp e = absurd (false≢true e)

-- an event that tells nothing
skip : {X : Type 0} (f : Event → List X) (b : Bool) (e : Event) (past : List Event) → f e ≡ [] → flat_map f (cond b (e ∷ []) [] ++ past) ≡ flat_map f past
skip f true e past none = ap (λ xs. xs ++ flat_map f past) none
skip f false e past none = refl

opened_none : {X : Type 0} (f : Event → List X) → ((r n : ℕ) (p : Plain) → f (opened r n p) ≡ []) → ((i : ℕ) (items : List RtcpFb) → f (opened_items i items) ≡ []) → (exts : ExtensionMap) (k : Kind) (o : OpenedEntry) → f (opened_event exts k o) ≡ []
opened_none f a b exts Rtp o = a _ _ _
opened_none f a b exts Rtcp o = b _ _

-- an event is that of an entry

pub event_in : (setup : Setup) (side : Side) (x : Entry) (e : Event) (entries : List Entry) → IsIn x entries → happening_of (extensions_of setup) x ≡ (side, e) → IsIn e (past_of setup side entries)
event_in setup side x e entries i is =
    IsIn-flat_map (event_of side) (side, e) e (happenings setup entries) (subst (λ h. IsIn h (happenings setup entries)) is (IsIn-map (happening_of (extensions_of setup)) x entries i))
    (subst (λ b. IsIn e (cond b (e ∷ []) [])) (sym (is_same side side refl)) (inl refl))

pub event_from : (setup : Setup) (side : Side) (e : Event) (entries : List Entry) → IsIn e (past_of setup side entries) → (x : Entry) × IsIn x entries × (happening_of (extensions_of setup) x ≡ (side, e))
event_from setup side e entries i =
    let h = IsIn-from_flat_map (event_of side) e (happenings setup entries) i in
    let x = IsIn-from_map (happening_of (extensions_of setup)) h.0 entries h.1 in
    (x.0, x.1, sym x.2 ∙ one h.0 h.2)
  where
    one : (h : Happening) → IsIn e (event_of side h) → h ≡ (side, e)
    one h j = elim (tested (same_side side h.0)) [
      | inl t ↦ elim (rw t at j) [ inl is ↦ (λ k. (sym (same_is side h.0 t) k, sym is k)) | inr none ↦ absurd none ]
      | inr t ↦ absurd (rw t at j)
    ]

pub sealed_happens : (setup : Setup) (s : SealedEntry) → s.kind ≡ Rtp → happening_of (extensions_of setup) (Sealed s) ≡ (s.side, sealed s.ssrc s.index (plain_in (extensions_of setup) s.plain) s.bytes)
sealed_happens setup s rtp = ap (λ k. (s.side, sealed_event (extensions_of setup) k s)) rtp

-- an RTP datagram that was sealed
pub record IsSealed (setup : Setup) (side : Side) (r n : ℕ) (p : Plain) (bytes : List ℕ) (entries : List Entry) : Type 0 where
  pub entry : SealedEntry
  pub there : IsIn (Sealed entry) entries
  pub side_is : entry.side ≡ side
  pub kind : entry.kind ≡ Rtp
  pub ssrc : entry.ssrc ≡ r
  pub index : entry.index ≡ n
  pub plain : plain_in (extensions_of setup) entry.plain ≡ p
  pub bytes_are : entry.bytes ≡ bytes

pub sealed_from : (setup : Setup) (side : Side) (r n : ℕ) (p : Plain) (bytes : List ℕ) (entries : List Entry) → IsIn (sealed r n p bytes) (past_of setup side entries) → IsSealed setup side r n p bytes entries
sealed_from setup side r n p bytes entries i = let f = event_from setup side (sealed r n p bytes) entries i in one f.0 f.1 f.2
  where
    of_kind : (s : SealedEntry) (k : Kind) → s.kind ≡ k → IsIn (Sealed s) entries → s.side ≡ side → sealed_event (extensions_of setup) k s ≡ sealed r n p bytes → IsSealed setup side r n p bytes entries
    of_kind s Rtp is j at e = record { entry = s; there = j; side_is = at; kind = is; ssrc = cc; index = cc; plain = cc; bytes_are = cc }
    of_kind s Rtcp is j at e = absurd cc

    opened_kind : (o : OpenedEntry) (k : Kind) → opened_event (extensions_of setup) k o ≡ sealed r n p bytes → ⊥
    opened_kind o Rtp e = cc
    opened_kind o Rtcp e = cc

    one : (x : Entry) → IsIn x entries → happening_of (extensions_of setup) x ≡ (side, sealed r n p bytes) → IsSealed setup side r n p bytes entries
    one (Sealed s) j e = of_kind s s.kind refl j (ap (λ (h : Happening). h.0) e) (ap (λ (h : Happening). h.1) e)
    one (Opened o) j e = absurd (opened_kind o o.kind (ap (λ (h : Happening). h.1) e))
    one (Wrote s t w) j e = absurd (let g = ap (λ (h : Happening). h.1) e in cc g)
    one (Ticked s t) j e = absurd (let g = ap (λ (h : Happening). h.1) e in cc g)
    one (Called s t c) j e = absurd (let g = ap (λ (h : Happening). h.1) e in cc g)
    one (Got g) j e = absurd (let k = ap (λ (h : Happening). h.1) e in cc k)
    one (Yielded s q) j e = absurd (let g = ap (λ (h : Happening). h.1) e in cc g)

-- writes

pub writes_read : (setup : Setup) (side : Side) (r : ℕ) (entries : List Entry) → event_writes r (past_of setup side entries) ≡ writes_on side r entries
writes_read setup side r [] = refl
writes_read setup side r (Wrote s t w ∷ entries) = one (same_side side s) ∙ ap (λ ws. cond (same_side side s && (w.ssrc == r)) (w ∷ []) [] ++ ws) (writes_read setup side r entries)
  where
    one : (b : Bool) → event_writes r (cond b (wrote t w ∷ []) [] ++ past_of setup side entries) ≡ cond (b && (w.ssrc == r)) (w ∷ []) [] ++ event_writes r (past_of setup side entries)
    one true = refl
    one false = refl
writes_read setup side r (Ticked s t ∷ entries) = skip (event_write r) (same_side side s) (ticked t) (past_of setup side entries) refl ∙ writes_read setup side r entries
writes_read setup side r (Called s t c ∷ entries) = skip (event_write r) (same_side side s) (called t) (past_of setup side entries) refl ∙ writes_read setup side r entries
writes_read setup side r (Got g ∷ entries) = skip (event_write r) (same_side side g.side) (got g.time g.kind g.bytes) (past_of setup side entries) refl ∙ writes_read setup side r entries
writes_read setup side r (Sealed x ∷ entries) = skip (event_write r) (same_side side x.side) (sealed_event (extensions_of setup) x.kind x) (past_of setup side entries) (none x.kind) ∙ writes_read setup side r entries
  where
    none : (k : Kind) → event_write r (sealed_event (extensions_of setup) k x) ≡ []
    none Rtp = refl
    none Rtcp = refl
writes_read setup side r (Opened o ∷ entries) = skip (event_write r) (same_side side o.side) (opened_event (extensions_of setup) o.kind o) (past_of setup side entries) (opened_none (event_write r) (λ a b c. refl) (λ a b. refl) (extensions_of setup) o.kind o) ∙ writes_read setup side r entries
writes_read setup side r (Yielded s p ∷ entries) = skip (event_write r) (same_side side s) (yielded p) (past_of setup side entries) refl ∙ writes_read setup side r entries

-- packets

pub packets_read : (setup : Setup) (side : Side) (L : Incoming) (entries : List Entry) → packets_on L (past_of setup side entries) ≡ filter (λ p. p.ssrc == L.ssrc) (packets side entries)
packets_read setup side L [] = refl
packets_read setup side L (Yielded s p ∷ entries) = one (packets_read setup side L entries) (same_side side s)
  where
    one : packets_on L (past_of setup side entries) ≡ filter (λ p. p.ssrc == L.ssrc) (packets side entries) → (b : Bool) → packets_on L (cond b (yielded p ∷ []) [] ++ past_of setup side entries) ≡ filter (λ p. p.ssrc == L.ssrc) (cond b (p ∷ []) [] ++ packets side entries)
    one rest true = elim (tested (p.ssrc == L.ssrc)) [ inl t ↦ rw t (ap (λ ps. p ∷ ps) rest) | inr t ↦ rw t rest ]
    one rest false = rest
packets_read setup side L (Wrote s t w ∷ entries) = skip (packet_on L) (same_side side s) (wrote t w) (past_of setup side entries) refl ∙ packets_read setup side L entries
packets_read setup side L (Ticked s t ∷ entries) = skip (packet_on L) (same_side side s) (ticked t) (past_of setup side entries) refl ∙ packets_read setup side L entries
packets_read setup side L (Called s t c ∷ entries) = skip (packet_on L) (same_side side s) (called t) (past_of setup side entries) refl ∙ packets_read setup side L entries
packets_read setup side L (Got g ∷ entries) = skip (packet_on L) (same_side side g.side) (got g.time g.kind g.bytes) (past_of setup side entries) refl ∙ packets_read setup side L entries
packets_read setup side L (Sealed x ∷ entries) = skip (packet_on L) (same_side side x.side) (sealed_event (extensions_of setup) x.kind x) (past_of setup side entries) (none x.kind) ∙ packets_read setup side L entries
  where
    none : (k : Kind) → packet_on L (sealed_event (extensions_of setup) k x) ≡ []
    none Rtp = refl
    none Rtcp = refl
packets_read setup side L (Opened o ∷ entries) = skip (packet_on L) (same_side side o.side) (opened_event (extensions_of setup) o.kind o) (past_of setup side entries) (opened_none (packet_on L) (λ a b c. refl) (λ a b. refl) (extensions_of setup) o.kind o) ∙ packets_read setup side L entries

-- numbers that were sealed

pub number_in : (side : Side) (r : ℕ) (s : SealedEntry) (entries : List Entry) → IsIn (Sealed s) entries → s.side ≡ side → s.kind ≡ Rtp → s.ssrc ≡ r → IsIn s.index (sealed_numbers side r entries)
number_in side r s entries i at kind ssrc =
    IsIn-flat_map (sealed_number_on side r) (Sealed s) s.index entries i
    (subst (λ b. IsIn s.index (cond b (s.index ∷ []) [])) (sym all) (inl refl))
  where
    own : (s.ssrc == r) ≡ true
    own = eq-eqb s.ssrc r ssrc

    all : (same_side side s.side && (same_kind Rtp s.kind && (s.ssrc == r))) ≡ true
    all = (λ k. same_side side (at k) && (same_kind Rtp (kind k) && own k)) ∙ ap (λ b. b && true) (is_same side side refl)

pub number_nonce : (side : Side) (r n : ℕ) (entries : List Entry) → IsIn n (sealed_numbers side r entries) → IsIn {X = Kind × ℕ × ℕ} (Rtp, r, n) (nonces side entries)
number_nonce side r n entries i =
    let f = IsIn-from_flat_map (sealed_number_on side r) n entries i in IsIn-flat_map (nonce_by side) f.0 (Rtp, r, n) entries f.1 (one f.0 f.2)
  where
    one : (x : Entry) → IsIn n (sealed_number_on side r x) → IsIn {X = Kind × ℕ × ℕ} (Rtp, r, n) (nonce_by side x)
    one (Sealed s) j =
        elim (tested (same_side side s.side && (same_kind Rtp s.kind && (s.ssrc == r)))) [
          | inl t ↦
              let a = and_parts (same_side side s.side) (same_kind Rtp s.kind && (s.ssrc == r)) t in
              let b = and_parts (same_kind Rtp s.kind) (s.ssrc == r) a.1 in
              elim (rw t at j) [
                | inl e ↦ subst (λ c. IsIn {X = Kind × ℕ × ℕ} (Rtp, r, n) (cond c ((s.kind, s.ssrc, s.index) ∷ []) [])) (sym a.0) (inl (λ k. (sym (kind_is s.kind b.0) k, sym (eqb-true s.ssrc r b.1) k, e k)))
                | inr none ↦ absurd none
              ]
          | inr t ↦ absurd (rw t at j)
        ]
    one (Wrote s t w) j = absurd j
    one (Ticked s t) j = absurd j
    one (Called s t c) j = absurd j
    one (Got g) j = absurd j
    one (Opened o) j = absurd j
    one (Yielded s p) j = absurd j

-- nonces

nonce_event : (setup : Setup) (side : Side) (k : Kind) (r n : ℕ) (entries : List Entry) → IsIn {X = Kind × ℕ × ℕ} (k, r, n) (nonces side entries)
    → (s : SealedEntry) × IsIn (Sealed s) entries × (s.side ≡ side) × (s.kind ≡ k) × (s.ssrc ≡ r) × (s.index ≡ n)
nonce_event setup side k r n entries i = let f = IsIn-from_flat_map (nonce_by side) (k, r, n) entries i in one f.0 f.1 f.2
  where
    one : (x : Entry) → IsIn x entries → IsIn {X = Kind × ℕ × ℕ} (k, r, n) (nonce_by side x) → (s : SealedEntry) × IsIn (Sealed s) entries × (s.side ≡ side) × (s.kind ≡ k) × (s.ssrc ≡ r) × (s.index ≡ n)
    one (Sealed s) at j = elim (tested (same_side side s.side)) [
      | inl t ↦ elim (rw t at j) [
        | inl e ↦ (s, at, sym (same_is side s.side t), ap (λ (z : Kind × ℕ × ℕ). z.0) (sym e), ap (λ (z : Kind × ℕ × ℕ). z.1) (sym e), ap (λ (z : Kind × ℕ × ℕ). z.2) (sym e))
        | inr none ↦ absurd none
      ]
      | inr t ↦ absurd (rw t at j)
    ]
    one (Wrote s t w) at j = absurd j
    one (Ticked s t) at j = absurd j
    one (Called s t c) at j = absurd j
    one (Got g) at j = absurd j
    one (Opened o) at j = absurd j
    one (Yielded s p) at j = absurd j

nonce_rtp : (setup : Setup) (side : Side) (r n : ℕ) (entries : List Entry) → IsIn {X = Kind × ℕ × ℕ} (Rtp, r, n) (nonces side entries) → IsIn {X = ℕ × ℕ} (r, n) (event_nonces (past_of setup side entries))
nonce_rtp setup side r n entries i =
    let f = nonce_event setup side Rtp r n entries i in
    let s = f.0 in
    IsIn-flat_map nonce_of (sealed s.ssrc s.index (plain_in (extensions_of setup) s.plain) s.bytes) (r, n) (past_of setup side entries)
    (event_in setup side (Sealed s) _ entries f.1 (sealed_happens setup s f.3 ∙ ap (λ (t : Side). (t, sealed s.ssrc s.index (plain_in (extensions_of setup) s.plain) s.bytes)) f.2))
    (inl (λ k. (sym f.4 k, sym f.5 k)))

nonce_rtcp : (setup : Setup) (side : Side) (r n : ℕ) (entries : List Entry) → IsIn {X = Kind × ℕ × ℕ} (Rtcp, r, n) (nonces side entries) → IsIn n (indices (past_of setup side entries))
nonce_rtcp setup side r n entries i =
    let f = nonce_event setup side Rtcp r n entries i in
    let s = f.0 in
    IsIn-flat_map index_of (sealed_event (extensions_of setup) Rtcp s) n (past_of setup side entries)
    (event_in setup side (Sealed s) _ entries f.1 (ap (λ k. (s.side, sealed_event (extensions_of setup) k s)) f.3 ∙ ap (λ (t : Side). (t, sealed_event (extensions_of setup) Rtcp s)) f.2))
    (inl (sym f.5))

pub nonces_once : (setup : Setup) (side : Side) (entries : List Entry) → NoRepeat (event_nonces (past_of setup side entries)) → NoRepeat (indices (past_of setup side entries)) → NoRepeat (nonces side entries)
nonces_once setup side [] h g = tt
nonces_once setup side (Sealed s ∷ entries) h g = one (λ a b. nonces_once setup side entries a b) (same_side side s.side) s.kind refl h g
  where
    one : (NoRepeat (event_nonces (past_of setup side entries)) → NoRepeat (indices (past_of setup side entries)) → NoRepeat (nonces side entries)) → (b : Bool) (k : Kind) → s.kind ≡ k → NoRepeat (event_nonces (cond b (sealed_event (extensions_of setup) s.kind s ∷ []) [] ++ past_of setup side entries))
        → NoRepeat (indices (cond b (sealed_event (extensions_of setup) s.kind s ∷ []) [] ++ past_of setup side entries)) → NoRepeat (cond b ((s.kind, s.ssrc, s.index) ∷ []) [] ++ nonces side entries)
    one more false k is h g = more h g
    one more true Rtp is h g =
        let a : NoRepeat ((s.ssrc, s.index) ∷ event_nonces (past_of setup side entries)) = subst (λ k. NoRepeat (event_nonces (sealed_event (extensions_of setup) k s ∷ past_of setup side entries))) is h in
        let b : NoRepeat (indices (past_of setup side entries)) = subst (λ k. NoRepeat (indices (sealed_event (extensions_of setup) k s ∷ past_of setup side entries))) is g in
        (λ i. a.0 (nonce_rtp setup side s.ssrc s.index entries (subst (λ k. IsIn {X = Kind × ℕ × ℕ} (k, s.ssrc, s.index) (nonces side entries)) is i)), more a.1 b)
    one more true Rtcp is h g =
        let a : NoRepeat (event_nonces (past_of setup side entries)) = subst (λ k. NoRepeat (event_nonces (sealed_event (extensions_of setup) k s ∷ past_of setup side entries))) is h in
        let b : NoRepeat (s.index ∷ indices (past_of setup side entries)) = subst (λ k. NoRepeat (indices (sealed_event (extensions_of setup) k s ∷ past_of setup side entries))) is g in
        (λ i. b.0 (nonce_rtcp setup side s.ssrc s.index entries (subst (λ k. IsIn {X = Kind × ℕ × ℕ} (k, s.ssrc, s.index) (nonces side entries)) is i)), more a b.1)
nonces_once setup side (Wrote s t w ∷ entries) h g =
    nonces_once setup side entries (subst NoRepeat (skip nonce_of (same_side side s) (wrote t w) (past_of setup side entries) refl) h) (subst NoRepeat (skip index_of (same_side side s) (wrote t w) (past_of setup side entries) refl) g)
nonces_once setup side (Ticked s t ∷ entries) h g =
    nonces_once setup side entries (subst NoRepeat (skip nonce_of (same_side side s) (ticked t) (past_of setup side entries) refl) h) (subst NoRepeat (skip index_of (same_side side s) (ticked t) (past_of setup side entries) refl) g)
nonces_once setup side (Called s t c ∷ entries) h g =
    nonces_once setup side entries (subst NoRepeat (skip nonce_of (same_side side s) (called t) (past_of setup side entries) refl) h) (subst NoRepeat (skip index_of (same_side side s) (called t) (past_of setup side entries) refl) g)
nonces_once setup side (Got x ∷ entries) h g =
    nonces_once setup side entries (subst NoRepeat (skip nonce_of (same_side side x.side) (got x.time x.kind x.bytes) (past_of setup side entries) refl) h)
    (subst NoRepeat (skip index_of (same_side side x.side) (got x.time x.kind x.bytes) (past_of setup side entries) refl) g)
nonces_once setup side (Opened o ∷ entries) h g =
    nonces_once setup side entries
    (subst NoRepeat (skip nonce_of (same_side side o.side) (opened_event (extensions_of setup) o.kind o) (past_of setup side entries) (opened_none nonce_of (λ a b c. refl) (λ a b. refl) (extensions_of setup) o.kind o)) h)
    (subst NoRepeat (skip index_of (same_side side o.side) (opened_event (extensions_of setup) o.kind o) (past_of setup side entries) (opened_none index_of (λ a b c. refl) (λ a b. refl) (extensions_of setup) o.kind o)) g)
nonces_once setup side (Yielded s p ∷ entries) h g =
    nonces_once setup side entries (subst NoRepeat (skip nonce_of (same_side side s) (yielded p) (past_of setup side entries) refl) h) (subst NoRepeat (skip index_of (same_side side s) (yielded p) (past_of setup side entries) refl) g)

-- indices of RTCP

quiet : (b : Bool) (e : Event) → index_of e ≡ [] → indices (cond b (e ∷ []) []) ≡ []
quiet true e none = ap (λ (is : List ℕ). is ++ []) none
quiet false e none = refl

sealed_index : (b : Bool) (exts : ExtensionMap) (kind : Kind) (s : SealedEntry) → cond (b && same_kind Rtcp kind) (s.index ∷ []) [] ≡ indices (cond b (sealed_event exts kind s ∷ []) [])
sealed_index true exts Rtp s = refl
sealed_index true exts Rtcp s = refl
sealed_index false exts kind s = refl

pub indices_read : (setup : Setup) (side : Side) (entries : List Entry) → srtcp_indices side entries ≡ indices (past_of setup side entries)
indices_read setup side [] = refl
indices_read setup side (e ∷ es) =
    (λ k. one e k ++ indices_read setup side es k)
    ∙ sym (flat_map-append index_of (event_of side (happening_of (extensions_of setup) e)) (past_of setup side es))
  where
    one : (e : Entry) → srtcp_index_by side e ≡ indices (event_of side (happening_of (extensions_of setup) e))
    one (Sealed s) = sealed_index (same_side side s.side) (extensions_of setup) s.kind s
    one (Wrote s t w) = sym (quiet (same_side side s) (wrote t w) refl)
    one (Ticked s t) = sym (quiet (same_side side s) (ticked t) refl)
    one (Called s t c) = sym (quiet (same_side side s) (called t) refl)
    one (Got g) = sym (quiet (same_side side g.side) (got g.time g.kind g.bytes) refl)
    one (Opened o) =
        sym (quiet (same_side side o.side) (opened_event (extensions_of setup) o.kind o) (opened_none index_of (λ a b c. refl) (λ a b. refl) (extensions_of setup) o.kind o))
    one (Yielded s p) = sym (quiet (same_side side s) (yielded p) refl)
