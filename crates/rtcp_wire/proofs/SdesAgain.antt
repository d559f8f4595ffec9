-- A written description is read again.
use Rattle.std.proofs.Common.{◌≡◌, ℕ, zero, suc, ◌+◌, ◌-◌, ◌*◌, ◌%◌, ◌<◌, ◌≤◌, List, [], ◌∷◌, ◌++◌, length, take, drop, Some, refl, ap, ◌∙◌, append_assoc, arith, length-append, eqb, ltb, false}
use Rattle.std.specs.Prelude.{slice_index, map}
use Rattle.std.specs.List.{flat_map, AllByRecursion}
use Rattle.std.specs.Int.{w32, to_be_bytes}
use Rattle.std.proofs.lemmas.Bool.{le-ltb, ne_eqb}
use Rattle.std.proofs.lemmas.List.{take_at, drop_at, length-take}
use Rattle.std.proofs.lemmas.Nat.{from_be_bytes-to_be_bytes_4}
use Rattle.rtp_base.specs.Wire.{word_at}
use Rattle.rtcp_items.specs.declared.source.SdesItem.{SdesItem}
use Rattle.rtcp_items.specs.declared.source.Sdes.{Sdes}
use Rattle.rtcp_items.specs.declared.source.Descriptions.{Descriptions}
use Rattle.rtcp_items.specs.SdesTypes.{sdes_type_of, sdes_number}
use Rattle.rtcp_wire.specs.Descriptions.{sdes_item_at, sdes_item_text, sdes_items_within, sdes_items_of, sdes_ended, sdes_at, sdes_text, chunks_of, descriptions_of, descriptions_body}
use Rattle.rtcp_wire.specs.Texts.{SdesItemFits, SdesItemsFit}
use Rattle.rtcp_wire.specs.Laws.{IsSdesItem, IsSdes, held_sdes}

item_is : (bytes : List ℕ) (len : ℕ) → 2 ≤ length bytes → 2 + slice_index bytes 1 ≡ len → len ≤ length bytes
    → sdes_item_at bytes ≡ Some (record { kind = sdes_type_of (slice_index bytes 0); text = drop 2 (take len bytes) }, drop len bytes)
unfolding sdes_item_at
item_is bytes len long two fits =
    let t1 : ltb (length bytes) 2 ≡ false = le-ltb _ _ long in
    let t2 : ltb (length bytes) len ≡ false = le-ltb _ _ fits in
    rw (two, t1, t2) refl

item_again : (i : SdesItem) (rest : List ℕ) → SdesItemFits i → IsSdesItem i → sdes_item_at (sdes_item_text i ++ rest) ≡ Some (i, rest)
unfolding sdes_item_text
item_again i rest f w =
    let bytes : List ℕ = sdes_item_text i ++ rest in
    let two : 2 + slice_index bytes 1 ≡ suc (suc (length i.text)) = omega (arith, f.1) in
    let front : take (length i.text) (i.text ++ rest) ≡ i.text = take_at i.text rest (length i.text) refl in
    let back : drop (length i.text) (i.text ++ rest) ≡ rest = drop_at i.text rest (length i.text) refl in
    item_is bytes (suc (suc (length i.text))) (omega arith) two (omega (arith, length-append i.text rest)) ∙ rw (w, front, back) refl

items_again : (n : ℕ) (is : List SdesItem) (rest : List ℕ) → length is < n → AllByRecursion SdesItemFits is → AllByRecursion IsSdesItem is
    → sdes_items_within n (flat_map sdes_item_text is ++ (0 ∷ rest)) ≡ Some (is, 0 ∷ rest)
unfolding sdes_item_text
items_again zero is rest lt f w = absurd (omega arith)
items_again (suc n) [] rest lt f w = refl
items_again (suc n) (i ∷ is) rest lt f w =
    let later : List ℕ = flat_map sdes_item_text is ++ (0 ∷ rest) in
    let e : flat_map sdes_item_text (i ∷ is) ++ (0 ∷ rest) ≡ sdes_item_text i ++ later = append_assoc (sdes_item_text i) (flat_map sdes_item_text is) (0 ∷ rest) in
    let positive : 0 < sdes_number i.kind = f.0.0 in
    let other : eqb (sdes_number i.kind) 0 ≡ false = ne_eqb _ _ (λ z. absurd (omega arith)) in
    let one = item_again i later f.0 w.0 in
    let others = items_again n is rest (omega arith) f.1 w.1 in
    ap (sdes_items_within (suc n)) e ∙ rw (other, one, others) refl

items_len : (is : List SdesItem) → length is * 2 ≤ length (flat_map sdes_item_text is)
unfolding sdes_item_text
items_len [] = omega arith
items_len (i ∷ is) = omega (arith, length-append (sdes_item_text i) (flat_map sdes_item_text is), items_len is)

sdes_is : (bytes rest : List ℕ) (is : List SdesItem) → 4 ≤ length bytes → sdes_items_of (drop 4 bytes) ≡ Some (is, rest)
    → sdes_at bytes ≡ sdes_ended (word_at bytes 0) (length bytes - length rest) (take 31 is, rest)
unfolding sdes_at
sdes_is bytes rest is long found =
    let t : ltb (length bytes) 4 ≡ false = le-ltb _ _ long in
    rw (t, found) refl

-- a list's zero and the zeros after it, which end with a whole word
ended_is : (ssrc at n : ℕ) (is : List SdesItem) (rest : List ℕ) → 4 - at % 4 ≡ suc n → n ≤ 3
    → sdes_ended ssrc at (is, 0 ∷ (take n (0 ∷ 0 ∷ 0 ∷ []) ++ rest)) ≡ Some (record { ssrc = ssrc; values = is }, rest)
ended_is ssrc at n is rest e le =
    let zeros : List ℕ = take n (0 ∷ 0 ∷ 0 ∷ []) in
    let few : length zeros ≡ n = length-take n (0 ∷ 0 ∷ 0 ∷ []) ∙ omega arith in
    let t : ltb (suc (length (zeros ++ rest))) (suc n) ≡ false = le-ltb _ _ (omega (arith, length-append zeros rest, few)) in
    let back : drop n (zeros ++ rest) ≡ rest = drop_at zeros rest n few in
    rw (e, t, back) refl

pub sdes_again : (s : Sdes) (rest : List ℕ) → SdesItemsFit s → IsSdes s → sdes_at (sdes_text s ++ rest) ≡ Some (held_sdes s, rest)
unfolding sdes_text
sdes_again s rest f w =
    let head : List ℕ = to_be_bytes w32 s.ssrc in
    let items : List ℕ = flat_map sdes_item_text s.values in
    let at : ℕ = length (head ++ items) in
    let n : ℕ = 3 - at % 4 in
    let e : 4 - at % 4 ≡ suc n = omega arith in
    let zeros : List ℕ = take n (0 ∷ 0 ∷ 0 ∷ []) in
    let end : List ℕ = 0 ∷ (zeros ++ rest) in
    let whole : List ℕ = head ++ (items ++ end) in
    let text : sdes_text s ++ rest ≡ whole = rw e (append_assoc (head ++ items) (0 ∷ zeros) rest ∙ append_assoc head items end) in
    let len : length whole ≡ at + length end = omega (arith, length-append items end, length-append head items, length-append head (items ++ end)) in
    let found = items_again (length (items ++ end)) s.values (zeros ++ rest) (omega (arith, items_len s.values, length-append items end)) f w.1 in
    let ssrc : word_at whole 0 ≡ s.ssrc = from_be_bytes-to_be_bytes_4 s.ssrc w.0 in
    let place : length whole - length end ≡ at = omega (arith, len) in
    ap sdes_at text ∙ sdes_is whole end s.values (omega (arith, len)) found
    ∙ rw (ssrc, place) (ended_is s.ssrc at n (take 31 s.values) rest e (omega arith))

chunks_again : (ss : List Sdes) → AllByRecursion SdesItemsFit ss → AllByRecursion IsSdes ss → chunks_of (length ss) (flat_map sdes_text ss) ≡ Some (map held_sdes ss)
chunks_again [] f w = refl
chunks_again (s ∷ ss) f w =
    let one = sdes_again s (flat_map sdes_text ss) f.0 w.0 in
    let others = chunks_again ss f.1 w.1 in
    rw (one, others) refl

pub descriptions_again : (d : Descriptions) → AllByRecursion SdesItemsFit d.reports → AllByRecursion IsSdes d.reports → descriptions_of (length d.reports) (descriptions_body d) ≡ Some (record { reports = map held_sdes d.reports })
unfolding descriptions_of descriptions_body
descriptions_again d f w = rw (chunks_again d.reports f w) refl
