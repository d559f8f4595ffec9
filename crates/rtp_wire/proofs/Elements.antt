-- What is left to write after an element.
use Rattle.std.proofs.Common.{◌≡◌, ℕ, suc, ◌+◌, ◌-◌, ◌<◌, ◌≤◌, Option, Some, None, List, [], ◌++◌, length, take, drop, refl, sym, ap, subst, ◌∙◌, append_assoc, append-nil, arith, length-append}
use Rattle.std.specs.List.{flat_map, range_with_len}
use Rattle.std.proofs.lemmas.Grind.{flat_map-append}
use Rattle.std.proofs.lemmas.List.{take_at, drop_at, drop-drop, length-take-le, take-append-drop}
use Rattle.rtp_wire.specs.declared.extension.Extension.{Extension}
use Rattle.rtp_wire.specs.declared.extension.ExtensionMap.{ExtensionMap}
use Rattle.rtp_wire.specs.declared.values.ExtensionValues.{ExtensionValues}
use Rattle.rtp_wire.specs.Writing.{value_bytes}
use Rattle.rtp_wire.specs.Extensions.{named_by, bytes_at, left_after, element_at, element_bytes, written_elements, written_data}
use Rattle.rtp_wire.proofs.ValueLengths.{data_bound}

-- the bytes of the elements from an id on
pub data_from : ℕ → ExtensionMap → ExtensionValues → List ℕ
data_from id exts w = flat_map element_bytes (written_elements (range_with_len id (15 - id)) exts w)

-- the bytes of the element of an id
unfoldable pub data_at : ℕ → Option Extension → ExtensionValues → List ℕ
data_at id p w = flat_map element_bytes (element_at id (bytes_at p w))

data_step : (id : ℕ) (exts : ExtensionMap) (w : ExtensionValues) → id < 15 → data_from id exts w ≡ data_at id (named_by exts id) w ++ data_from (id + 1) exts (left_after (named_by exts id) w)
unfolding data_from data_at written_elements
data_step id exts w h =
    let more : 15 - id ≡ suc (15 - (id + 1)) = omega arith in
    let p : Option Extension = named_by exts id in
    ap (λ (n : ℕ). flat_map element_bytes (written_elements (range_with_len id n) exts w)) more
    ∙ flat_map-append element_bytes (element_at id (bytes_at p w)) (written_elements (range_with_len (id + 1) (15 - (id + 1))) exts (left_after p w))

-- Before an id: what was written, and what is left, are together what is to be written.
pub record IsSofar (exts : ExtensionMap) (values left : ExtensionValues) (old bytes : List ℕ) (id at : ℕ) : Type 0 where
  pub whole : take at bytes ++ data_from id exts left ≡ written_data exts values
  pub behind : drop at bytes ≡ drop at old
  pub within : at ≤ length bytes

pub sofar_first : (exts : ExtensionMap) (values : ExtensionValues) (old : List ℕ) → IsSofar exts values values old old 1 0
unfolding data_from written_data
sofar_first exts values old = record { whole = refl; behind = refl; within = omega arith }

pub sofar_none : (exts : ExtensionMap) (values left : ExtensionValues) (old bytes : List ℕ) (id at : ℕ) → id < 15 → named_by exts id ≡ None → IsSofar exts values left old bytes id at → IsSofar exts values left old bytes (id + 1) at
unfolding data_at
sofar_none exts values left old bytes id at h e s =
    let next : data_from (id + 1) exts left ≡ data_from id exts left = sym (data_step id exts left h ∙ ap (λ (p : Option Extension). data_at id p left ++ data_from (id + 1) exts (left_after p left)) e) in
    record { whole = ap (λ (l : List ℕ). take at bytes ++ l) next ∙ s.whole; behind = s.behind; within = s.within }

-- there is room for the next element
pub sofar_room : (exts : ExtensionMap) (values left : ExtensionValues) (old bytes : List ℕ) (id at : ℕ) (e : Extension) → id < 15 → named_by exts id ≡ Some e → IsSofar exts values left old bytes id at → at + length (flat_map element_bytes (element_at id (value_bytes e left))) ≤ 75
unfolding data_at
sofar_room exts values left old bytes id at e h n s =
    let front : List ℕ = take at bytes in
    let first : List ℕ = data_at id (Some e) left in
    let rest : List ℕ = data_from (id + 1) exts (left_after (named_by exts id) left) in
    let long : length front ≡ at = length-take-le at bytes s.within in
    let step : data_from id exts left ≡ first ++ rest = data_step id exts left h ∙ ap (λ (p : Option Extension). data_at id p left ++ rest) n in
    let parts : length (front ++ (first ++ rest)) ≡ length (written_data exts values) = ap length (ap (λ (l : List ℕ). front ++ l) (sym step) ∙ s.whole) in
    omega (arith, long, parts, length-append front (first ++ rest), length-append first rest, data_bound exts values)

pub sofar_some : (exts : ExtensionMap) (values left next : ExtensionValues) (old bytes rest : List ℕ) (id at n : ℕ) (p : Option Extension) → id < 15 → named_by exts id ≡ p → next ≡ left_after p left
    → n ≡ length (data_at id p left) → rest ≡ data_at id p left ++ drop n (drop at bytes)
    → IsSofar exts values left old bytes id at → IsSofar exts values next old (take at bytes ++ rest) (id + 1) (at + n)
sofar_some exts values left next old bytes rest id at n p h e w len is s =
    let front : List ℕ = take at bytes in
    let first : List ℕ = data_at id p left in
    let long : length front ≡ at = length-take-le at bytes s.within in
    let both : length (front ++ first) ≡ at + n = omega (arith, long, len, length-append front first) in
    let all : front ++ rest ≡ (front ++ first) ++ drop n (drop at bytes) = ap (λ (l : List ℕ). front ++ l) is ∙ sym (append_assoc front first (drop n (drop at bytes))) in
    let step : data_from id exts left ≡ first ++ data_from (id + 1) exts next = data_step id exts left h ∙ ap (λ (q : Option Extension). data_at id q left ++ data_from (id + 1) exts (left_after q left)) e ∙ ap (λ (v : ExtensionValues). first ++ data_from (id + 1) exts v) (sym w) in record {
      whole = ap (λ (l : List ℕ). take (at + n) l ++ data_from (id + 1) exts next) all
          ∙ ap (λ (l : List ℕ). l ++ data_from (id + 1) exts next) (take_at (front ++ first) (drop n (drop at bytes)) (at + n) both)
          ∙ append_assoc front first (data_from (id + 1) exts next)
          ∙ ap (λ (l : List ℕ). front ++ l) (sym step)
          ∙ s.whole;
      behind = ap (drop (at + n)) all ∙ drop_at (front ++ first) (drop n (drop at bytes)) (at + n) both ∙ ap (drop n) s.behind ∙ drop-drop n at old;
      within = omega (arith, both, ap length all, length-append (front ++ first) (drop n (drop at bytes)));
    }

nothing_from : (id : ℕ) (exts : ExtensionMap) (w : ExtensionValues) → id ≡ 15 → data_from id exts w ≡ []
unfolding data_from written_elements
nothing_from id exts w h = let none : 15 - id ≡ 0 = omega arith in ap (λ (n : ℕ). flat_map element_bytes (written_elements (range_with_len id n) exts w)) none

sofar_front : (exts : ExtensionMap) (values left : ExtensionValues) (old bytes : List ℕ) (id at : ℕ) → id ≡ 15 → IsSofar exts values left old bytes id at → take at bytes ≡ written_data exts values
sofar_front exts values left old bytes id at h s = sym (append-nil (take at bytes)) ∙ ap (λ (l : List ℕ). take at bytes ++ l) (sym (nothing_from id exts left h)) ∙ s.whole

pub sofar_all : (exts : ExtensionMap) (values left : ExtensionValues) (old bytes : List ℕ) (id at : ℕ) → id ≡ 15 → IsSofar exts values left old bytes id at → bytes ≡ written_data exts values ++ drop at old
sofar_all exts values left old bytes id at h s =
    sym (take-append-drop at bytes) ∙ ap (λ (l : List ℕ). l ++ drop at bytes) (sofar_front exts values left old bytes id at h s) ∙ ap (λ (l : List ℕ). written_data exts values ++ l) s.behind

pub sofar_length : (exts : ExtensionMap) (values left : ExtensionValues) (old bytes : List ℕ) (id at : ℕ) → id ≡ 15 → IsSofar exts values left old bytes id at → at ≡ length (written_data exts values)
sofar_length exts values left old bytes id at h s = sym (length-take-le at bytes s.within) ∙ ap length (sofar_front exts values left old bytes id at h s)

pub sofar_next : (exts : ExtensionMap) (values next : ExtensionValues) (old more : List ℕ) (id at : ℕ) (bytes' : List ℕ) (left' : ExtensionValues) (at' : ℕ) → more ≡ bytes' → next ≡ left' → at ≡ at' → IsSofar exts values left' old bytes' id at' → IsSofar exts values next old more id at
sofar_next exts values next old more id at bytes' left' at' b l a s =
    let at_bytes : IsSofar exts values left' old more id at' = (let P : List ℕ → Type 0 = λ x. IsSofar exts values left' old x id at' in subst P (sym b) s) in
    let at_left : IsSofar exts values next old more id at' = (let P : ExtensionValues → Type 0 = λ x. IsSofar exts values x old more id at' in subst P (sym l) at_bytes) in
    let P : ℕ → Type 0 = λ x. IsSofar exts values next old more id x in subst P (sym a) at_left
