-- The streams of a media section are taken out.
use Rattle.std.proofs.Common.{◌≡◌, ℕ, Bool, true, false, not, List, [], ◌∷◌, sym, ap, subst, ◌∙◌}
use Rattle.std.specs.Prelude.{if◌then◌else◌}
use Rattle.std.specs.List.{filter}
use Rattle.repair_core.specs.Rounds.{Heard}
use Rattle.resend_core.specs.ResendStore.{Past}
use Rattle.stream_core.specs.Known.{KnownRecord}
use Rattle.stream_core.specs.Removing.{is_of_other, sends_for, sent_without, received_without, kept_without, known_without_section, without_section}
use Rattle.stream_core.specs.Repairing.{SentPacket, RepairsView, RepairsStandFor}
use Rattle.stream_core.specs.RxRecord.{RxState, RxView, StandsFor as RxStandsFor}
use Rattle.stream_core.specs.StreamsRecord.{StreamsView, StreamsRecord, StandsFor}
use Rattle.stream_core.specs.Tables.{Under, Along}
use Rattle.stream_core.specs.TxRecord.{TxRecord}

-- an entry stands in front of both tables, or of neither
add_along : {A B : Type 0} (R : A → B → Type 0) (x : ℕ × A) (y : ℕ × B) (xs : List (ℕ × A)) (ys : List (ℕ × B)) → Under R x y → Along R xs ys
    → (b : Bool) → Along R (if b then x ∷ xs else xs) (if b then y ∷ ys else ys)
add_along R x y xs ys first rest true = (first, rest)
add_along R x y xs ys first rest false = rest

-- of two tables the same entries stay
filter_along : {A B : Type 0} (R : A → B → Type 0) (p : ℕ × A → Bool) (q : ℕ × B → Bool) → ((x : ℕ × A) (y : ℕ × B) → Under R x y → p x ≡ q y)
    → (xs : List (ℕ × A)) (ys : List (ℕ × B)) → Along R xs ys → Along R (filter p xs) (filter q ys)
filter_along R p q same [] [] h = h
filter_along R p q same [] (y ∷ ys) h = absurd h
filter_along R p q same (x ∷ xs) [] h = absurd h
filter_along R p q same (x ∷ xs) (y ∷ ys) h =
    subst (λ (b : Bool). Along R (filter p (x ∷ xs)) (if b then y ∷ filter q ys else filter q ys)) (same x y h.0)
    (add_along R x y (filter p xs) (filter q ys) h.0 (filter_along R p q same xs ys h.1) (p x))

module _ {W S : Type 0} (remembers : W → Heard → Type 0) (stands_for : S → Past SentPacket → Type 0) (mid : List ℕ) where
  pub section_removed : (s inside : StreamsView W S) (rx : List (ℕ × RxView W)) (known : KnownRecord) (tx : List (ℕ × TxRecord)) (repairs : List (ℕ × RepairsView S))
      → inside ≡ s → rx ≡ filter (λ e. is_of_other mid e.1.state.mid) inside.rx → known ≡ known_without_section mid inside.known → tx ≡ sent_without mid inside.tx
      → repairs ≡ kept_without mid inside.tx inside.repairs → (r : StreamsRecord) → StandsFor remembers stands_for s r
      → StandsFor remembers stands_for (record inside { rx = rx; known = known; tx = tx; repairs = repairs }) (without_section mid r)
  section_removed s inside rx known tx repairs view left gone sends kept r h =
      let mine = subst (λ v. StandsFor remembers stands_for v r) (sym view) h in
      let RR = RxStandsFor remembers in
      let RS = RepairsStandFor stands_for in
      record {
        threshold = mine.threshold;
        rx = subst (λ l. Along RR l (received_without mid r.rx)) (sym left)
            (filter_along RR (λ e. is_of_other mid e.1.state.mid) (λ e. is_of_other mid e.1.state.mid) (λ x y u. ap (λ (t : RxState). is_of_other mid t.mid) u.1.state) inside.rx r.rx mine.rx);
        known = gone ∙ ap (known_without_section mid) mine.known;
        tx = sends ∙ ap (sent_without mid) mine.tx;
        repairs = subst (λ l. Along RS l (kept_without mid r.tx r.repairs)) (sym kept)
            (filter_along RS (λ e. not (sends_for mid e.0 inside.tx)) (λ e. not (sends_for mid e.0 r.tx))
            (λ x y u. ap (λ (k : ℕ). not (sends_for mid k inside.tx)) u.0 ∙ ap (λ (l : List (ℕ × TxRecord)). not (sends_for mid y.0 l)) mine.tx) inside.repairs r.repairs mine.repairs);
      }
