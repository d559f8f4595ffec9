-- Elements that are written are read again, with the zeros that fill them up, as the wire form of the values.
use Rattle.std.proofs.Common.{◌≡◌, ℕ, zero, suc, ◌+◌, ◌-◌, ◌*◌, ◌%◌, ◌≤◌, List, [], ◌∷◌, ◌++◌, length, take, drop, replicate, refl, ap, ◌∙◌, append_assoc, arith, length-append, Option, Some, None}
use Rattle.std.specs.List.{flat_map, AllByRecursion, range_with_len}
use Rattle.std.proofs.lemmas.List.{take_at, drop_at}
use Rattle.rtp_wire.specs.declared.values.ExtensionValues.{ExtensionValues}
use Rattle.rtp_wire.specs.Extensions.{no_values, one_byte_elements, with_elements, values_of, written_data, written_values, named_by, written_ids, bytes_at, left_after, element_at, written_elements, element_bytes}
use Rattle.rtp_wire.specs.declared.extension.ExtensionMap.{ExtensionMap}
use Rattle.rtp_wire.specs.declared.extension.Extension.{Extension}
use Rattle.rtp_wire.specs.declared.extension.Extension.TheVariants.{AudioLevel, AbsoluteSendTime, TransportSequenceNumber, RtpMid, RtpStreamId, RepairedRtpStreamId, VideoOrientation, AbsoluteCaptureTime, PlayoutDelay}
use Rattle.rtp_wire.specs.Writing.{value_bytes}
use Rattle.rtp_wire.proofs.FirstElement.{one_padding, one_element}
use Rattle.rtp_wire.proofs.ValueLengths.{FitsIn, longest, value_fits}
use Rattle.rtp_wire.proofs.ValuesTaken.{elements_hold}

abbrev IsElement : ℕ × List ℕ → Type 0
IsElement e = (1 ≤ e.0) × (e.0 ≤ 14) × (1 ≤ length e.1) × (length e.1 ≤ 16)

abbrev IsId : ℕ → Type 0
IsId id = (1 ≤ id) × (id ≤ 14)

longest_bound : (e : Extension) → longest e ≤ 16
longest_bound AudioLevel = omega arith
longest_bound AbsoluteSendTime = omega arith
longest_bound TransportSequenceNumber = omega arith
longest_bound RtpMid = omega arith
longest_bound RtpStreamId = omega arith
longest_bound RepairedRtpStreamId = omega arith
longest_bound VideoOrientation = omega arith
longest_bound AbsoluteCaptureTime = omega arith
longest_bound PlayoutDelay = omega arith

element_fits : (id n : ℕ) (bytes : Option (List ℕ)) (rest : List (ℕ × List ℕ)) → IsId id → n ≤ 16 → FitsIn n bytes → AllByRecursion IsElement rest → AllByRecursion IsElement (element_at id bytes ++ rest)
element_fits id n None rest i h f r = r
element_fits id n (Some bytes) rest i h f r = ((i.0, i.1, f.0, omega arith), r)

elements_fit_at : (id : ℕ) (ids : List ℕ) (exts : ExtensionMap) (p : Option Extension) (w : ExtensionValues) → IsId id → AllByRecursion IsElement (written_elements ids exts (left_after p w)) → AllByRecursion IsElement (element_at id (bytes_at p w) ++ written_elements ids exts (left_after p w))
elements_fit_at id ids exts None w i r = r
elements_fit_at id ids exts (Some e) w i r = element_fits id (longest e) (value_bytes e w) _ i (longest_bound e) (value_fits e w) r

elements_fit : (ids : List ℕ) (exts : ExtensionMap) (w : ExtensionValues) → AllByRecursion IsId ids → AllByRecursion IsElement (written_elements ids exts w)
unfolding written_elements
elements_fit [] exts w h = tt
elements_fit (id ∷ ids) exts w h = elements_fit_at id ids exts (named_by exts id) w h.0 (elements_fit ids exts (left_after (named_by exts id) w) h.1)

ids_are : (n id : ℕ) → 1 ≤ id → id + n ≤ 15 → AllByRecursion IsId (range_with_len id n)
ids_are zero id low high = tt
ids_are (suc n) id low high = ((low, omega arith), ids_are n (id + 1) (omega arith) (omega arith))

zeros_read : (k : ℕ) → one_byte_elements 0 (replicate k 0) ≡ []
zeros_read zero = unfold one_byte_elements in refl
zeros_read (suc k) = one_padding (replicate k 0) ∙ zeros_read k

same_element : (id n : ℕ) (bytes : List ℕ) (m : ℕ) (more : List ℕ) (es fs : List (ℕ × List ℕ)) → m ≡ id → more ≡ bytes → es ≡ fs → (m, more) ∷ es ≡ (id, bytes) ∷ fs
same_element id n bytes m more es fs p q r = cc

element_again : (id : ℕ) (bytes tail : List ℕ) (es : List (ℕ × List ℕ)) → 1 ≤ id → id ≤ 14 → 1 ≤ length bytes → length bytes ≤ 16 → one_byte_elements 0 tail ≡ es → one_byte_elements 0 ((id * 16 + (length bytes - 1)) ∷ bytes ++ tail) ≡ (id, bytes) ∷ es
element_again id bytes tail es low high some few e =
    let b : ℕ = id * 16 + (length bytes - 1) in
    let n_is : b % 16 + 1 ≡ length bytes = omega arith in
    one_element b (bytes ++ tail) (omega arith) (omega arith) (omega (arith, n_is, length-append bytes tail))
    ∙ same_element id 0 bytes _ _ _ _ (omega arith) (ap (λ (k : ℕ). take k (bytes ++ tail)) n_is ∙ take_at bytes tail (length bytes) refl) (ap (λ (k : ℕ). one_byte_elements 0 (drop k (bytes ++ tail))) n_is ∙ ap (one_byte_elements 0) (drop_at bytes tail (length bytes) refl) ∙ e)

elements_again : (es : List (ℕ × List ℕ)) (k : ℕ) → AllByRecursion IsElement es → one_byte_elements 0 (flat_map element_bytes es ++ replicate k 0) ≡ es
elements_again [] k h = zeros_read k
elements_again (e ∷ es) k h =
    ap (λ (l : List ℕ). one_byte_elements 0 ((e.0 * 16 + (length e.1 - 1)) ∷ l)) (append_assoc e.1 (flat_map element_bytes es) (replicate k 0))
    ∙ element_again e.0 e.1 (flat_map element_bytes es ++ replicate k 0) es h.0.0 h.0.1 h.0.2 h.0.3 (elements_again es k h.1)

-- the data that is written has the values as their wire form holds them, whatever zeros follow it
pub data_again : (exts : ExtensionMap) (values : ExtensionValues) (k : ℕ) → values_of exts 48862 (written_data exts values ++ replicate k 0) ≡ written_values exts values
unfolding values_of written_data
data_again exts values k =
    ap (with_elements exts no_values) (elements_again (written_elements written_ids exts values) k (elements_fit written_ids exts values (ids_are 14 1 (omega arith) (omega arith))))
    ∙ elements_hold exts values

-- without values nothing is written

no_bytes : (p : Option Extension) → bytes_at p no_values ≡ None
no_bytes None = refl
no_bytes (Some AudioLevel) = refl
no_bytes (Some other) = refl

none_left : (p : Option Extension) → left_after p no_values ≡ no_values
none_left None = refl
none_left (Some AudioLevel) = refl
none_left (Some other) = refl

no_elements : (ids : List ℕ) (exts : ExtensionMap) → written_elements ids exts no_values ≡ []
unfolding written_elements
no_elements [] exts = refl
no_elements (id ∷ ids) exts =
    let p : Option Extension = named_by exts id in
    ap (λ (o : Option (List ℕ)). element_at id o ++ written_elements ids exts (left_after p no_values)) (no_bytes p)
    ∙ ap (written_elements ids exts) (none_left p)
    ∙ no_elements ids exts

pub no_data : (exts : ExtensionMap) → written_data exts no_values ≡ []
unfolding written_data
no_data exts = ap (flat_map element_bytes) (no_elements written_ids exts)
