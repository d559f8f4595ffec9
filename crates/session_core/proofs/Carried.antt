-- Where in a datagram what it carries stands.
use Rattle.std.proofs.Common.{◌≡◌, ℕ, ◌+◌, ◌-◌, ◌≤◌, Bool, true, false, List, [], ◌++◌, Some, None, length, take, drop, refl, sym, ap, ◌∙◌, arith}
use Rattle.std.specs.Prelude.{◌&&◌, nat_le, unwrap_or, if◌then◌else◌}
use Rattle.std.proofs.Math.Seq.{drop-append-add}
use Rattle.std.proofs.lemmas.List.{drop-take, drop_all, length-drop, take_all, take_min, length-take}
use Rattle.rtp_wire.specs.declared.header.RtpHeader.{RtpHeader}
use Rattle.rtp_wire.specs.Padding.{padding_length, unpadded}
use Rattle.session_core.specs.Receiving.{cut, carried_in}

-- a run of what stands behind
pub run_behind : (front payload : List ℕ) (behind start count : ℕ) → behind ≡ length front
    → take count (drop (behind + start) (front ++ payload)) ≡ take count (drop start payload)
run_behind front payload behind start count is =
    ap (λ n. take count (drop (n + start) (front ++ payload))) is ∙ ap (take count) (drop-append-add front payload start)

-- what is left of the first bytes without some in front is a run
run_of : (some : ℕ) (u payload : List ℕ) → take (length u) payload ≡ u
    → take (length (drop some u)) (drop (length u - length (drop some u)) payload) ≡ drop some u
run_of some u payload first = go (nat_le some (length u)) refl
  where
    go : (b : Bool) → nat_le some (length u) ≡ b → take (length (drop some u)) (drop (length u - length (drop some u)) payload) ≡ drop some u
    go true e =
        let fits : some ≤ length u = grind (arith, e) in
        let left : length (drop some u) ≡ length u - some = length-drop some u in
        let back : length u - length (drop some u) ≡ some = omega (arith, left, fits) in
        let whole : some + length (drop some u) ≡ length u = omega (arith, left, fits) in
        ap (λ n. take (length (drop some u)) (drop n payload)) back
        ∙ sym (drop-take some (length (drop some u)) payload)
        ∙ ap (λ n. drop some (take n payload)) whole
        ∙ ap (drop some) first
    go false e =
        let past : length u ≤ some = grind (arith, e) in
        let none : drop some u ≡ [] = drop_all some u past in
        ap (λ (l : List ℕ). take (length l) (drop (length u - length l) payload)) none ∙ sym none

-- a payload without its padding is its first bytes
first_bytes : (m : ℕ) (payload : List ℕ) → take (length (take m payload)) payload ≡ take m payload
first_bytes m payload = ap (λ n. take n payload) (length-take m payload) ∙ take_min m payload

cut_first : (h : RtpHeader) (payload : List ℕ) → take (length (cut h payload)) payload ≡ cut h payload
cut_first h payload = padded h.has_padding refl
  where
    cut_by : Bool → List ℕ
    cut_by b = if b then unwrap_or (unpadded payload) payload else payload

    kept : Bool → List ℕ
    kept b = unwrap_or (if b then Some (take (length payload - padding_length payload) payload) else None) payload

    whole : take (length payload) payload ≡ payload
    whole = take_all (length payload) payload (omega arith)

    cuts : (b : Bool) → take (length (kept b)) payload ≡ kept b
    cuts true = first_bytes (length payload - padding_length payload) payload
    cuts false = whole

    padded : (b : Bool) → h.has_padding ≡ b → take (length (cut_by b)) payload ≡ cut_by b
    padded true e = cuts (nat_le 1 (padding_length payload) && nat_le (padding_length payload) (length payload))
    padded false e = whole

-- what a payload carries is a run of it
pub carried_run : (repair : Bool) (h : RtpHeader) (payload : List ℕ)
    → take (length (carried_in repair h payload)) (drop (length (cut h payload) - length (carried_in repair h payload)) payload) ≡ carried_in repair h payload
carried_run true h payload = run_of 2 (cut h payload) payload (cut_first h payload)
carried_run false h payload = run_of 0 (cut h payload) payload (cut_first h payload)
