-- What is left of the bytes after a turn of reading has the elements that are left.
use Rattle.std.proofs.Common.{◌≡◌, ◌≢◌, ℕ, ◌+◌, ◌/◌, ◌%◌, ◌<◌, ◌≤◌, List, [], ◌∷◌, length, take, drop, get_or, sym, ap, ◌∙◌, arith, length-drop}
use Rattle.std.proofs.lemmas.List.{drop_more, drop-drop, get_or-drop, drop_all}
use Rattle.rtp_wire.specs.Extensions.{named_by, with_value, with_elements, one_byte_elements, two_byte_elements}
use Rattle.rtp_wire.proofs.FirstElement.{one_padding, one_stop, one_short, one_element, two_padding, two_short, two_element}
use Rattle.rtp_wire.specs.declared.extension.ExtensionMap.{ExtensionMap}
use Rattle.rtp_wire.specs.declared.values.ExtensionValues.{ExtensionValues}

plus_zero : (n : ℕ) → n + 0 ≡ n
plus_zero n = omega arith

one_at : (bs : List ℕ) (at : ℕ) → at < length bs → one_byte_elements 0 (drop at bs) ≡ one_byte_elements 0 (get_or bs at 0 ∷ drop (at + 1) bs)
one_at bs at h = ap (one_byte_elements 0) (drop_more bs at 0 h)

two_at : (bs : List ℕ) (at : ℕ) → at < length bs → two_byte_elements 0 (drop at bs) ≡ two_byte_elements 0 (get_or bs at 0 ∷ drop (at + 1) bs)
two_at bs at h = ap (two_byte_elements 0) (drop_more bs at 0 h)

pub one_padding_at : (exts : ExtensionMap) (v w : ExtensionValues) (bs : List ℕ) (at : ℕ) → at < length bs → get_or bs at 0 ≡ 0 → with_elements exts v (one_byte_elements 0 (drop at bs)) ≡ w → with_elements exts v (one_byte_elements 0 (drop (at + 1) bs)) ≡ w
one_padding_at exts v w bs at h z e =
    ap (with_elements exts v) (sym (one_at bs at h ∙ ap (λ (b : ℕ). one_byte_elements 0 (b ∷ drop (at + 1) bs)) z ∙ one_padding (drop (at + 1) bs))) ∙ e

pub two_padding_at : (exts : ExtensionMap) (v w : ExtensionValues) (bs : List ℕ) (at : ℕ) → at < length bs → get_or bs at 0 ≡ 0 → with_elements exts v (two_byte_elements 0 (drop at bs)) ≡ w → with_elements exts v (two_byte_elements 0 (drop (at + 1) bs)) ≡ w
two_padding_at exts v w bs at h z e =
    ap (with_elements exts v) (sym (two_at bs at h ∙ ap (λ (b : ℕ). two_byte_elements 0 (b ∷ drop (at + 1) bs)) z ∙ two_padding (drop (at + 1) bs))) ∙ e

none_left : (exts : ExtensionMap) (v w : ExtensionValues) (es : List (ℕ × List ℕ)) → es ≡ [] → with_elements exts v es ≡ w → v ≡ w
unfolding with_elements
none_left exts v w es z e = ap (with_elements exts v) (sym z) ∙ e

pub one_stop_at : (exts : ExtensionMap) (v w : ExtensionValues) (bs : List ℕ) (at : ℕ) → at < length bs → get_or bs at 0 ≢ 0 → get_or bs at 0 / 16 ≡ 15 → with_elements exts v (one_byte_elements 0 (drop at bs)) ≡ w → v ≡ w
one_stop_at exts v w bs at h some stop e = none_left exts v w _ (one_at bs at h ∙ one_stop (get_or bs at 0) (drop (at + 1) bs) some stop) e

pub one_short_at : (exts : ExtensionMap) (v w : ExtensionValues) (bs : List ℕ) (at : ℕ) → at < length bs → get_or bs at 0 ≢ 0 → length bs < at + 1 + (get_or bs at 0 % 16 + 1) → with_elements exts v (one_byte_elements 0 (drop at bs)) ≡ w → v ≡ w
one_short_at exts v w bs at h some short e =
    none_left exts v w _ (one_at bs at h ∙ one_short (get_or bs at 0) (drop (at + 1) bs) some (omega (arith, length-drop (at + 1) bs))) e

pub two_short_at : (exts : ExtensionMap) (v w : ExtensionValues) (bs : List ℕ) (at : ℕ) → at < length bs → get_or bs at 0 ≢ 0 → length bs < at + 2 + get_or bs (at + 1) 0 → with_elements exts v (two_byte_elements 0 (drop at bs)) ≡ w → v ≡ w
two_short_at exts v w bs at h some short e =
    none_left exts v w _ (two_at bs at h ∙ two_short (get_or bs at 0) (drop (at + 1) bs) some (omega (arith, length-drop (at + 1) bs, get_or-drop (at + 1) bs 0 0, ap (λ (k : ℕ). get_or bs k 0) (plus_zero (at + 1))))) e

pub none_left_at : (exts : ExtensionMap) (v w : ExtensionValues) (bs : List ℕ) (at : ℕ) → length bs ≤ at → with_elements exts v (one_byte_elements 0 (drop at bs)) ≡ w → v ≡ w
unfolding one_byte_elements
none_left_at exts v w bs at h e = none_left exts v w _ (ap (one_byte_elements 0) (drop_all at bs h)) e

pub two_none_left_at : (exts : ExtensionMap) (v w : ExtensionValues) (bs : List ℕ) (at : ℕ) → length bs ≤ at → with_elements exts v (two_byte_elements 0 (drop at bs)) ≡ w → v ≡ w
unfolding two_byte_elements
two_none_left_at exts v w bs at h e = none_left exts v w _ (ap (two_byte_elements 0) (drop_all at bs h)) e

pub one_element_at : (exts : ExtensionMap) (v w : ExtensionValues) (bs : List ℕ) (at n : ℕ) → at < length bs → get_or bs at 0 ≢ 0 → get_or bs at 0 / 16 ≢ 15 → n ≡ get_or bs at 0 % 16 + 1 → at + 1 + n ≤ length bs
    → with_elements exts v (one_byte_elements 0 (drop at bs)) ≡ w → with_elements exts (with_value v (named_by exts (get_or bs at 0 / 16)) (take n (drop (at + 1) bs))) (one_byte_elements 0 (drop (at + (1 + n)) bs)) ≡ w
unfolding with_elements
one_element_at exts v w bs at n h some on is fits e =
    let b : ℕ = get_or bs at 0 in
    let one : one_byte_elements 0 (drop at bs) ≡ (b / 16, take (b % 16 + 1) (drop (at + 1) bs)) ∷ one_byte_elements 0 (drop (b % 16 + 1) (drop (at + 1) bs)) = one_at bs at h ∙ one_element b (drop (at + 1) bs) some on (omega (arith, length-drop (at + 1) bs)) in
    let place : at + 1 + n ≡ at + (1 + n) = omega arith in
    sym (ap (with_elements exts v) (one
    ∙ ap (λ (k : ℕ). (b / 16, take k (drop (at + 1) bs)) ∷ one_byte_elements 0 (drop k (drop (at + 1) bs))) (sym is)
    ∙ ap (λ (l : List ℕ). (b / 16, take n (drop (at + 1) bs)) ∷ one_byte_elements 0 l) (drop-drop n (at + 1) bs ∙ ap (λ (k : ℕ). drop k bs) place)))
    ∙ e

pub two_element_at : (exts : ExtensionMap) (v w : ExtensionValues) (bs : List ℕ) (at n : ℕ) → at + 1 < length bs → get_or bs at 0 ≢ 0 → n ≡ get_or bs (at + 1) 0 → at + 2 + n ≤ length bs
    → with_elements exts v (two_byte_elements 0 (drop at bs)) ≡ w → with_elements exts (with_value v (named_by exts (get_or bs at 0)) (take n (drop (at + 2) bs))) (two_byte_elements 0 (drop (at + (2 + n)) bs)) ≡ w
unfolding with_elements
two_element_at exts v w bs at n h some is fits e =
    let b : ℕ = get_or bs at 0 in
    let tail : List ℕ = drop (at + 1) bs in
    let here : get_or tail 0 0 ≡ n = get_or-drop (at + 1) bs 0 0 ∙ ap (λ (k : ℕ). get_or bs k 0) (plus_zero (at + 1)) ∙ sym is in
    let two : two_byte_elements 0 (drop at bs) ≡ (b, take (get_or tail 0 0) (drop 1 tail)) ∷ two_byte_elements 0 (drop (get_or tail 0 0 + 1) tail) = two_at bs at (omega arith) ∙ two_element b tail some (omega (arith, length-drop (at + 1) bs, here)) in
    let first : at + 1 + 1 ≡ at + 2 = omega arith in
    let place : at + 1 + (n + 1) ≡ at + (2 + n) = omega arith in
    sym (ap (with_elements exts v) (two
    ∙ ap (λ (k : ℕ). (b, take k (drop 1 tail)) ∷ two_byte_elements 0 (drop (k + 1) tail)) here
    ∙ ap (λ (l : List ℕ). (b, take n l) ∷ two_byte_elements 0 (drop (n + 1) tail)) (drop-drop 1 (at + 1) bs ∙ ap (λ (k : ℕ). drop k bs) first)
    ∙ ap (λ (l : List ℕ). (b, take n (drop (at + 2) bs)) ∷ two_byte_elements 0 l) (drop-drop (n + 1) (at + 1) bs ∙ ap (λ (k : ℕ). drop k bs) place)))
    ∙ e
