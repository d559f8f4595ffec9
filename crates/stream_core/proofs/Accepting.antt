-- What the stream of an SSRC answers, and the number under which a datagram may open.
use Rattle.std.proofs.Common.{◌≡◌, ℕ, List, Option, Some, None, slice_get, sym, ap, ◌∙◌}
use Rattle.std.specs.Prelude.{option_and_then}
use Rattle.std.specs.Map.{values_of}
use Rattle.repair_core.specs.Rounds.{Heard}
use Rattle.stream_core.specs.Tables.{place_of, value_under, Along}
use Rattle.stream_core.specs.RxRecord.{RxView, RxRecord, StandsFor, fresh_number}
use Rattle.stream_core.specs.StreamsRecord.{accepted}
use Rattle.stream_core.proofs.Alongside.{place_along, value_along}

module _ {W : Type 0} (remembers : W → Heard → Type 0) (es : List (ℕ × RxView W)) (rs : List (ℕ × RxRecord)) (h : Along (StandsFor remembers) es rs) where
  -- what the stream at a place answers is the answer of its record
  pub says_at : {X : Type 0} (ssrc i : ℕ) (x : RxView W) (answer : RxRecord → Option X) (n : Option X) → place_of ssrc es ≡ Some i → slice_get (values_of es) i ≡ Some x
      → ((r : RxRecord) → StandsFor remembers x r → n ≡ answer r) → n ≡ option_and_then answer (value_under ssrc rs)
  says_at ssrc i x answer n place at says =
      let y = value_along (StandsFor remembers) es rs i x h at in
      says y.0 y.2
      ∙ sym (ap (λ o. option_and_then answer (option_and_then (slice_get (values_of rs)) o)) (sym (place_along (StandsFor remembers) es rs ssrc h) ∙ place)
      ∙ ap (λ o. option_and_then answer o) y.1)

  pub accepted_none : (memory : Option ℕ) (ssrc low : ℕ) → place_of ssrc es ≡ None → accepted memory rs ssrc low ≡ None
  accepted_none memory ssrc low none =
      ap (λ o. option_and_then (λ r. fresh_number memory r low) (option_and_then (slice_get (values_of rs)) o)) (sym (place_along (StandsFor remembers) es rs ssrc h) ∙ none)

  pub accepted_at : (memory : Option ℕ) (ssrc low i : ℕ) (x : RxView W) (n : Option ℕ) → place_of ssrc es ≡ Some i → slice_get (values_of es) i ≡ Some x
      → ((r : RxRecord) → StandsFor remembers x r → n ≡ fresh_number memory r low) → n ≡ accepted memory rs ssrc low
  accepted_at memory ssrc low i x n place at says = says_at ssrc i x (λ r. fresh_number memory r low) n place at says
