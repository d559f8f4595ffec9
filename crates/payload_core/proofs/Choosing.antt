-- The loop that chooses the frames that are sent again.
use Rattle.std.proofs.Common.{◌≡◌, ℕ, ◌+◌, ◌-◌, ◌<◌, ◌≤◌, true, false, List, [], ◌∷◌, ◌++◌, length, drop, get_or, refl, sym, ap, ◌∙◌, append_assoc, arith, drop-cons}
use mathlib.Core.List.{reverse, reverse_aux}
use Rattle.std.proofs.Math.ListN.{drop_of_length-le}
use Rattle.std.proofs.lemmas.List.{append-nil}
use Rattle.std.specs.Prelude.{◌&&◌, eqb}
use Rattle.std.specs.List.{list_any}
use Rattle.payload_core.specs.declared.red.RedBlock.{RedBlock}
use Rattle.payload_core.specs.declared.red_sender.SentFrame.{SentFrame}
use Rattle.payload_core.specs.Red.{Block, block_of, blocks_of}
use Rattle.payload_core.specs.Sending.{fits, older_block, chosen}
use Rattle.payload_core.proofs.RedBlocks.{pushed}

-- the blocks chosen so far are the first of all, and those of the frames that are left are the others
abbrev pub IsChosen : List RedBlock → ℕ → List ℕ → ℕ → ℕ → ℕ → List SentFrame → List Block → Type 0
IsChosen blocks pt distances time room i sent all = blocks_of blocks ++ chosen pt distances time room (i + 1) (drop i sent) ≡ all

front_of : (xs : List SentFrame) (i : ℕ) (x : SentFrame) → i < length xs → x ≡ get_or xs i x → drop i xs ≡ x ∷ drop (i + 1) xs
front_of xs i x lt at = grind (arith, drop-cons)

one_taken : (pt time room distance : ℕ) (distances : List ℕ) (s : SentFrame) (later : List SentFrame) → (list_any (λ d. eqb d distance) distances && fits time room s) ≡ true
    → chosen pt distances time room distance (s ∷ later) ≡ older_block pt time s ∷ chosen pt distances time (room - (4 + length s.payload)) (distance + 1) later
one_taken pt time room distance distances s later yes' = rw yes' refl

one_passed : (pt time room distance : ℕ) (distances : List ℕ) (s : SentFrame) (later : List SentFrame) → (list_any (λ d. eqb d distance) distances && fits time room s) ≡ false
    → chosen pt distances time room distance (s ∷ later) ≡ chosen pt distances time room (distance + 1) later
one_passed pt time room distance distances s later not' = rw not' refl

pub chosen_one : (blocks more : List RedBlock) (b : RedBlock) (pt time room room' i : ℕ) (distances : List ℕ) (sent : List SentFrame) (s : SentFrame) (all : List Block)
    → i < length sent → s ≡ get_or sent i s → more ≡ blocks ++ b ∷ [] → block_of b ≡ older_block pt time s
    → (list_any (λ d. eqb d (i + 1)) distances && fits time room s) ≡ true → room' ≡ room - (4 + length s.payload)
    → IsChosen blocks pt distances time room i sent all → IsChosen more pt distances time room' (i + 1) sent all
chosen_one blocks more b pt time room room' i distances sent s all lt at e same taken left so =
    let next : drop i sent ≡ s ∷ drop (i + 1) sent = front_of sent i s lt at in
    let one = one_taken pt time room (i + 1) distances s (drop (i + 1) sent) taken in
    rw (pushed blocks more b e, same, left)
    (append_assoc (blocks_of blocks) (older_block pt time s ∷ []) _ ∙ (rw (next, one) at so))

pub chosen_none : (blocks : List RedBlock) (pt time room i : ℕ) (distances : List ℕ) (sent : List SentFrame) (s : SentFrame) (all : List Block)
    → i < length sent → s ≡ get_or sent i s → (list_any (λ d. eqb d (i + 1)) distances && fits time room s) ≡ false
    → IsChosen blocks pt distances time room i sent all → IsChosen blocks pt distances time room (i + 1) sent all
chosen_none blocks pt time room i distances sent s all lt at passed so =
    let next : drop i sent ≡ s ∷ drop (i + 1) sent = front_of sent i s lt at in
    let one = one_passed pt time room (i + 1) distances s (drop (i + 1) sent) passed in
    rw (next, one) at so

turned_onto : (xs ys : List RedBlock) → blocks_of (reverse_aux xs ys) ≡ reverse_aux (blocks_of xs) (blocks_of ys)
turned_onto [] ys = refl
turned_onto (x ∷ xs) ys = turned_onto xs (x ∷ ys)

pub chosen_ends : (blocks turned : List RedBlock) (pt time room i : ℕ) (distances : List ℕ) (sent : List SentFrame) (all : List Block) → length sent ≤ i
    → turned ≡ reverse blocks → IsChosen blocks pt distances time room i sent all → blocks_of turned ≡ reverse all
chosen_ends blocks turned pt time room i distances sent all le e so =
    let none : drop i sent ≡ [] = drop_of_length-le sent le in
    let whole : blocks_of blocks ≡ all = sym (append-nil (blocks_of blocks)) ∙ (rw none at so) in
    rw e (turned_onto blocks [] ∙ ap reverse whole)
