-- The loop that reads the redundant blocks.
use Rattle.std.proofs.Common.{◌≡◌, ℕ, suc, ◌+◌, ◌-◌, ◌*◌, ◌<◌, ◌≤◌, List, [], ◌∷◌, ◌++◌, length, drop, Option, Some, None, refl, sym, ap, ◌∙◌, append_assoc, arith, eqb, inl, inr}
use Rattle.std.specs.Option.{option_map}
use Rattle.std.proofs.lemmas.Bool.Decides.{eqb_tells}
use Rattle.payload_core.specs.Red.{Block, blocks_from, first_block, primary_block, block_of, blocks_of, of_type}
use Rattle.payload_core.specs.declared.red.RedBlock.{RedBlock}
use Rattle.std.proofs.lemmas.List.{map-append}
use Rattle.std.specs.Prelude.{filter}

-- the blocks read so far are the first of all, and those that are left are the others
pub record IsRead (front : List Block) (left : ℕ) (head rest : List ℕ) (all : Option (List Block)) : Type 0 where
  pub so_far : option_map (λ later. front ++ later) (blocks_from left head rest) ≡ all
  pub headed : 4 * left + 1 ≤ length head

regroup : (front : List Block) (b : Block) (o : Option (List Block)) → option_map (λ later. (front ++ b ∷ []) ++ later) o ≡ option_map (λ later. front ++ later) (option_map (λ later. b ∷ later) o)
regroup front b None = refl
regroup front b (Some later) = ap Some (append_assoc front (b ∷ []) later)

pub read_more : (front : List Block) (b : Block) (count counter : ℕ) (head rest head' rest' : List ℕ) (all : Option (List Block)) → counter < count
    → first_block head rest ≡ Some (b, rest') → head' ≡ drop 4 head → length head ≡ length head' + 4
    → IsRead front (count - counter) head rest all → IsRead (front ++ b ∷ []) (count - (counter + 1)) head' rest' all
read_more front b count counter head rest head' rest' all lt found e len so =
    let n : ℕ = count - (counter + 1) in
    let s : count - counter ≡ suc n = omega arith in
    let next : blocks_from (count - counter) head rest ≡ option_map (λ later. b ∷ later) (blocks_from n head' rest') =
    rw (s, found, e) refl in
    record {
      so_far = regroup front b (blocks_from n head' rest') ∙ (rw next at so.so_far);
      headed = omega (arith, so.headed);
    }

pub read_short : (front : List Block) (count counter : ℕ) (head rest : List ℕ) (all : Option (List Block)) → counter < count → first_block head rest ≡ None
    → IsRead front (count - counter) head rest all → all ≡ None
read_short front count counter head rest all lt short so =
    let n : ℕ = count - (counter + 1) in
    let s : count - counter ≡ suc n = omega arith in
    let none : blocks_from (count - counter) head rest ≡ None = rw (s, short) refl in
    sym so.so_far ∙ rw none refl

pub read_ends : (front : List Block) (count counter : ℕ) (head rest : List ℕ) (all : Option (List Block)) → count ≤ counter
    → IsRead front (count - counter) head rest all → all ≡ Some (front ++ primary_block head rest ∷ [])
read_ends front count counter head rest all le so =
    let e : count - counter ≡ 0 = omega arith in
    let last : blocks_from (count - counter) head rest ≡ Some (primary_block head rest ∷ []) = rw e refl in
    sym so.so_far ∙ rw last refl

pub pushed : (items more : List RedBlock) (b : RedBlock) → more ≡ items ++ b ∷ [] → blocks_of more ≡ blocks_of items ++ block_of b ∷ []
pushed items more b e = rw e (map-append block_of items (b ∷ []))

pub kept_of_type : (pt : ℕ) (bs : List RedBlock) → blocks_of (filter (λ b. eqb b.pt pt) bs) ≡ of_type pt (blocks_of bs)
kept_of_type pt [] = refl
kept_of_type pt (b ∷ bs) = elim (eqb_tells b.pt pt) [
  | inl same ↦ let e = same.0 in rw e (ap (λ later. block_of b ∷ later) (kept_of_type pt bs))
  | inr other ↦ let e = other.0 in rw e (kept_of_type pt bs)
]
