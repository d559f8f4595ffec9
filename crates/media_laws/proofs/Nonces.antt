-- No two RTP datagrams of a side share SSRC and number.
use Rattle.std.proofs.Common.{◌≡◌, ◌⊎◌, inl, inr, ℕ, true, false, eqb, List, [], ◌∷◌, ◌++◌, map, Option, Some, None, refl, sym, ap, ◌∙◌, subst}
use Rattle.std.specs.Prelude.{◌==◌, if◌then◌else◌}
use Rattle.std.specs.List.{flat_map}
use Rattle.std.proofs.lemmas.Bool.{or_cases, eq-eqb, eqb-true, false≢true, or_right}
use Rattle.std.proofs.lemmas.List.{map-append}
use Rattle.media_model.specs.declared.entry.Write.{Write}
use Rattle.run_model.specs.Events.{Plain, Event, wrote, ticked, called, got, sealed, sealed_items, opened, opened_items, yielded, Types, Outgoing}
use Rattle.run_model.specs.Listing.{IsIn, NoRepeat}
use Rattle.run_model.specs.Sending.{number_of, sending_on, first_sendings, repair_on, repairs, sendings}
use Rattle.run_model.specs.Seals.{Sealing}
use Rattle.run_model.specs.TxPlay.{TxRecord, IsApart, TxEnds}
use Rattle.std.proofs.lemmas.List.Concat.{flat_map-append}
use Rattle.run_model.specs.TxLaws.{SendsWrites}
use Rattle.run_model.specs.Tables.{Table, lines, has, AreApart, nonce_of, nonces, NoNonceTwice}
use Rattle.media_laws.proofs.Lists.{tested}
use Rattle.media_laws.proofs.TxTracks.{first, numbered}
use Rattle.media_laws.proofs.TxPlays.{streams_send_writes}
use Rattle.media_laws.proofs.TxSeals.{ends_seal}
use Rattle.media_laws.proofs.Tables.{AllEnd, Ended, ended, ends_known}
use Rattle.rtp_base.specs.Window.{is_just}

-- the numbers under one SSRC

abbrev pub under : ℕ → ℕ × ℕ → List ℕ
under r x = if x.0 == r then x.1 ∷ [] else []

abbrev pub group : ℕ → List (ℕ × ℕ) → List ℕ
group r xs = flat_map (under r) xs

in_group : (x : ℕ × ℕ) (xs : List (ℕ × ℕ)) → IsIn x xs → IsIn x.1 (group x.0 xs)
in_group x [] i = absurd i
in_group x (y ∷ xs) (inl e) = rw (eq-eqb y.0 x.0 (ap (λ (z : ℕ × ℕ). z.0) (sym e))) (inl (ap (λ (z : ℕ × ℕ). z.1) e))
in_group x (y ∷ xs) (inr i) = elim (tested (eqb y.0 x.0)) [ inl t ↦ rw t (inr (in_group x xs i)) | inr t ↦ rw t (in_group x xs i) ]

-- a list has no repeat where no group of it has one
grouped : (xs : List (ℕ × ℕ)) → ((r : ℕ) → NoRepeat (group r xs)) → NoRepeat xs
grouped [] all = tt
grouped (x ∷ xs) all =
    let same : eqb x.0 x.0 ≡ true = eq-eqb x.0 x.0 refl in
    let here : NoRepeat (x.1 ∷ group x.0 xs) = rw same at (all x.0) in
    (λ i. here.0 (in_group x xs i), grouped xs (λ r. rest r))
  where
    rest : (r : ℕ) → NoRepeat (group r xs)
    rest r = elim (tested (eqb x.0 r)) [
      | inl t ↦ let h : NoRepeat (x.1 ∷ group r xs) = rw t at (all r) in h.1
      | inr t ↦ let h : NoRepeat (group r xs) = rw t at (all r) in h
    ]

-- the groups of one stream

abbrev pub IsBare : Outgoing → List Event → Type 0
IsBare L events = (ssrc n : ℕ) (p : Plain) (bytes : List ℕ) → IsIn (sealed ssrc n p bytes) events → has L ssrc ≡ true → p.padded ≡ false

group-push : (r : ℕ) (f : Event → List (ℕ × ℕ)) (e : Event) (events : List Event) → group r (f e ++ nonces events) ≡ group r (f e) ++ group r (nonces events)
group-push r f e events = flat_map-append (under r) (f e) (nonces events)

main_group : (L : Outgoing) (events : List Event) → IsBare L events → group L.ssrc (nonces events) ≡ map first (first_sendings L.ssrc events)
main_group L [] bare = refl
main_group L (e ∷ events) bare =
    group-push L.ssrc nonce_of e events ∙ ap (λ ns. group L.ssrc (nonce_of e) ++ ns) (main_group L events (λ r n p b i. bare r n p b (inr i)))
    ∙ ap (λ ns. ns ++ map first (first_sendings L.ssrc events)) (one e (λ r n p b is. bare r n p b (inl (sym is))))
    ∙ sym (map-append first (sending_on L.ssrc e) (first_sendings L.ssrc events))
  where
    one : (e : Event) → ((r n : ℕ) (p : Plain) (b : List ℕ) → e ≡ sealed r n p b → has L r ≡ true → p.padded ≡ false) → group L.ssrc (nonce_of e) ≡ map first (sending_on L.ssrc e)
    one (sealed r n p b) bare = elim (tested (eqb r L.ssrc)) [ inl t ↦ let out : p.padded ≡ false = bare r n p b refl (rw t refl) in rw (t, out) refl | inr t ↦ rw t refl ]
    one (wrote time w) bare = refl
    one (ticked time) bare = refl
    one (called time) bare = refl
    one (got time kind b) bare = refl
    one (sealed_items index items) bare = refl
    one (opened r n p) bare = refl
    one (opened_items index items) bare = refl
    one (yielded packet) bare = refl

rtx_group : (L : Outgoing) (x : ℕ) → L.rtx ≡ Some x → (events : List Event) → IsBare L events → group x (nonces events) ≡ map first (repairs L events)
rtx_group L x is [] bare = refl
rtx_group L x is (e ∷ events) bare =
    group-push x nonce_of e events ∙ ap (λ ns. group x (nonce_of e) ++ ns) (rtx_group L x is events (λ r n p b i. bare r n p b (inr i)))
    ∙ ap (λ ns. ns ++ map first (repairs L events)) (one e (λ r n p b k. bare r n p b (inl (sym k))))
    ∙ sym (map-append first (repair_on L e) (repairs L events))
  where
    turned : (r : ℕ) → is_just r L.rtx ≡ eqb x r
    turned r = ap (is_just r) is

    flipped : (r : ℕ) → eqb r x ≡ eqb x r
    flipped r = elim (tested (eqb r x)) [
      | inl t ↦ t ∙ sym (eq-eqb x r (sym (eqb-true r x t)))
      | inr t ↦ elim (tested (eqb x r)) [ inl u ↦ absurd (false≢true (sym t ∙ eq-eqb r x (sym (eqb-true x r u)))) | inr u ↦ t ∙ sym u ]
    ]

    one : (e : Event) → ((r n : ℕ) (p : Plain) (b : List ℕ) → e ≡ sealed r n p b → has L r ≡ true → p.padded ≡ false) → group x (nonce_of e) ≡ map first (repair_on L e)
    one (sealed r n p b) bare =
        elim (tested (eqb r x)) [
          | inl t ↦
              let own : is_just r L.rtx ≡ true = turned r ∙ sym (flipped r) ∙ t in
              let out : p.padded ≡ false = bare r n p b refl (or_right (eqb r L.ssrc) (is_just r L.rtx) own) in
              rw (t, own, out) refl
          | inr t ↦ let other : is_just r L.rtx ≡ false = turned r ∙ sym (flipped r) ∙ t in rw (t, other) refl
        ]
    one (wrote time w) bare = refl
    one (ticked time) bare = refl
    one (called time) bare = refl
    one (got time kind b) bare = refl
    one (sealed_items index items) bare = refl
    one (opened r n p) bare = refl
    one (opened_items index items) bare = refl
    one (yielded packet) bare = refl

-- nothing is sealed under an SSRC of no stream
no_group : (r : ℕ) (events : List Event) → ((ssrc n : ℕ) (p : Plain) (b : List ℕ) → IsIn (sealed ssrc n p b) events → eqb ssrc r ≡ false) → group r (nonces events) ≡ []
no_group r [] none = refl
no_group r (e ∷ events) none =
    group-push r nonce_of e events ∙ ap (λ ns. group r (nonce_of e) ++ ns) (no_group r events (λ s n p b i. none s n p b (inr i)))
    ∙ ap (λ ns. ns ++ []) (one e (λ s n p b is. none s n p b (inl (sym is))))
  where
    one : (e : Event) → ((s n : ℕ) (p : Plain) (b : List ℕ) → e ≡ sealed s n p b → eqb s r ≡ false) → group r (nonce_of e) ≡ []
    one (sealed s n p b) out = let other : eqb s r ≡ false = out s n p b refl in rw other refl
    one (wrote time w) out = refl
    one (ticked time) out = refl
    one (called time) out = refl
    one (got time kind b) out = refl
    one (sealed_items index items) out = refl
    one (opened s n p) out = refl
    one (opened_items index items) out = refl
    one (yielded packet) out = refl

-- the stream of an SSRC

stream_of : (r : ℕ) (Ls : List Outgoing) → ((L : Outgoing) × IsIn L Ls × (has L r ≡ true)) ⊎ ((L : Outgoing) → IsIn L Ls → has L r ≡ false)
stream_of r [] = inr (λ L i. absurd i)
stream_of r (M ∷ Ms) =
    elim (tested (has M r)) [
      | inl t ↦ inl (M, inl refl, t)
      | inr t ↦ elim (stream_of r Ms) [
        | inl s ↦ inl (s.0, inr s.1, s.2)
        | inr none ↦ inr (λ L i. elim i [ inl e ↦ ap (λ (N : Outgoing). has N r) e ∙ t | inr j ↦ none L j ])
      ]
    ]

pub apart_in : (Ls : List Outgoing) (L : Outgoing) → AreApart Ls → IsIn L Ls → IsApart L
apart_in [] L h i = absurd i
apart_in (M ∷ Ms) L h (inl e) = subst IsApart (sym e) h.0
apart_in (M ∷ Ms) L h (inr i) = apart_in Ms L h.1.1 i

pub end_of : {T : Types} {seal : Sealing} {events : List Event} (xs : Table) (L : Outgoing) → AllEnd T seal events xs → IsIn L (lines xs) → (t : TxRecord) × TxEnds T L seal t events
end_of [] L all i = absurd i
end_of {T} {seal} {events} (s ∷ xs) L all (inl e) = (s.1, subst (λ M. TxEnds T M seal s.1 events) (sym e) all.0)
end_of (s ∷ xs) L all (inr i) = end_of xs L all.1 i

stream_group : {T : Types} {seal : Sealing} {L : Outgoing} {t : TxRecord} {events : List Event} → IsApart L → TxEnds T L seal t events → (r : ℕ) → has L r ≡ true → NoRepeat (group r (nonces events))
stream_group {T} {seal} {L} {t} {events} apart h r own =
    elim (or_cases (eqb r L.ssrc) (is_just r L.rtx) own) [
      | inl is ↦ subst (λ m. NoRepeat (group m (nonces events))) (sym (eqb-true r L.ssrc is)) (subst NoRepeat (sym (main_group L events bare ∙ ap (map first) laws.sent ∙ same (sendings L.ssrc events).sent)) laws.once)
      | inr is ↦ subst NoRepeat (sym (rtx_group L r (just L.rtx is) events bare)) laws.apart
    ]
  where
    laws : SendsWrites T L t events
    laws = streams_send_writes T L seal t events apart h

    bare : IsBare L events
    bare ssrc n p b i mine = (ends_seal h (sealed ssrc n p b) i mine).1

    just : (o : Option ℕ) → is_just r o ≡ true → o ≡ Some r
    just None is = absurd (false≢true is)
    just (Some x) is = ap Some (eqb-true x r is)

    same : (xs : List (ℕ × Write)) → map first (map numbered xs) ≡ map number_of (map (λ (x : ℕ × Write). x.1) xs)
    same [] = refl
    same (x ∷ xs) = ap (λ ns. x.1.number ∷ ns) (same xs)

pub no_nonce_twice : NoNonceTwice
no_nonce_twice T seal Ls xs events apart h = grouped (nonces events) each
  where
    s : Ended T seal Ls xs events
    s = ended apart h

    each : (r : ℕ) → NoRepeat (group r (nonces events))
    each r = elim (stream_of r Ls) [
      | inl found ↦
          let end = end_of xs found.0 s.all (subst (IsIn found.0) (sym s.same) found.1) in
          stream_group (apart_in Ls found.0 apart found.1) end.1 r found.2
      | inr none ↦ subst NoRepeat (sym (no_group r events (unknown none))) tt
    ]
      where
        unknown : ((L : Outgoing) → IsIn L Ls → has L r ≡ false) → (ssrc n : ℕ) (p : Plain) (b : List ℕ) → IsIn (sealed ssrc n p b) events → eqb ssrc r ≡ false
        unknown none ssrc n p b i =
            let known = ends_known apart h (sealed ssrc n p b) i in
            elim (tested (eqb ssrc r)) [
              | inl t ↦ absurd (false≢true (sym (none known.0 known.1) ∙ subst (λ q. has known.0 q ≡ true) (eqb-true ssrc r t) known.2))
              | inr t ↦ t
            ]
