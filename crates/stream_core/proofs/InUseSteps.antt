-- What is in use is what the streams of the record have.
use Rattle.std.proofs.Common.{◌≡◌, ℕ, List, [], ◌∷◌, is_some, refl}
use Rattle.std.specs.Prelude.{◌||◌}
use Rattle.std.specs.List.{list_any}
use Rattle.repair_core.specs.Rounds.{Heard}
use Rattle.resend_core.specs.ResendStore.{Past}
use Rattle.stream_core.specs.InUse.{is_of, is_received, is_received_by, is_sent, is_used, is_in_use}
use Rattle.stream_core.specs.Repairing.{SentPacket}
use Rattle.stream_core.specs.RxRecord.{RxState, RxView, RxRecord, StandsFor as RxStandsFor}
use Rattle.stream_core.specs.StreamsRecord.{StreamsView, StreamsRecord, StandsFor}
use Rattle.stream_core.specs.Tables.{Along}
use Rattle.stream_core.proofs.Alongside.{place_along}

module _ {W : Type 0} (remembers : W → Heard → Type 0) (ssrc : ℕ) where
  some_of : (xs : List (ℕ × RxView W)) (ys : List (ℕ × RxRecord)) → Along (RxStandsFor remembers) xs ys
      → list_any (λ (e : ℕ × RxView W). is_of ssrc e.1.state.ssrc e.1.state.rtx) xs ≡ list_any (λ (e : ℕ × RxRecord). is_of ssrc e.1.state.ssrc e.1.state.rtx) ys
  some_of [] [] h = refl
  some_of [] (y ∷ ys) h = absurd h
  some_of (x ∷ xs) [] h = absurd h
  some_of (x ∷ xs) (y ∷ ys) h = λ i. let s : RxState = h.0.1.state i in is_of ssrc s.ssrc s.rtx || some_of xs ys h.1 i

  received_same : (xs : List (ℕ × RxView W)) (ys : List (ℕ × RxRecord)) → Along (RxStandsFor remembers) xs ys → is_received ssrc xs ≡ is_received_by ssrc ys
  received_same xs ys h = λ i. some_of xs ys h i || is_some (place_along (RxStandsFor remembers) xs ys ssrc h i)

-- what is in use of the streams is what is of their record
pub used_is : {W S : Type 0} (remembers : W → Heard → Type 0) (stands_for : S → Past SentPacket → Type 0) (s : StreamsView W S) (r : StreamsRecord)
    → StandsFor remembers stands_for s r → is_used s ≡ is_in_use r
used_is remembers stands_for s r h = λ i ssrc. received_same remembers ssrc s.rx r.rx h.rx i || is_sent ssrc (h.tx i)
