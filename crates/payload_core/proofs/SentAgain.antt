-- What a sender of RED makes is read again, and within the limit.
use Rattle.std.proofs.Common.{◌≡◌, ℕ, ◌+◌, ◌-◌, ◌<◌, ◌≤◌, Bool, true, false, List, [], ◌∷◌, length, refl, ◌∙◌, arith, length-append, eqb, inl, inr, ◌⊎◌}
use mathlib.Core.Bool.{◌&&◌}
use mathlib.Core.List.{reverse_aux}
use Rattle.std.proofs.lemmas.Bool.{and_parts, leb-true, ltb-true}
use Rattle.std.specs.List.{flat_map, list_any, AllByRecursion}
use Rattle.payload_core.specs.declared.red_sender.SentFrame.{SentFrame}
use Rattle.payload_core.specs.Red.{Block}
use Rattle.payload_core.specs.RedWriting.{header_bytes, red_bytes, IsRedundant, IsPrimary, IsRed}
use Rattle.payload_core.specs.Sending.{Fits, fits, older_block, first_block, chosen}
use Rattle.payload_core.specs.SendingLaws.{FramesAreSentAgain}
use Rattle.payload_core.proofs.RedAgain.{red_again}

tells : (b : Bool) → (b ≡ true) ⊎ (b ≡ false)
tells true = inl refl
tells false = inr refl

fits_is : (time room : ℕ) (s : SentFrame) → fits time room s ≡ true → Fits time room s
fits_is time room s e =
    let p1 = and_parts _ _ e in
    let p2 = and_parts _ _ p1.1 in
    let p3 = and_parts _ _ p2.1 in
    record { before = leb-true _ _ p1.0; near = ltb-true _ _ p2.0; short = ltb-true _ _ p3.0; roomy = leb-true _ _ p3.1 }

-- how many bytes blocks take
abbrev size : List Block → ℕ
size [] = 0
size (b ∷ bs) = length (header_bytes b) + length b.payload + size bs

older_is : (pt time room : ℕ) (s : SentFrame) → pt < 128 → Fits time room s → IsRedundant (older_block pt time s)
older_is pt time room s small f = record { redundant = refl; pt = small; offset = f.near; length = f.short }

-- one step of choosing
step : (pt time room distance : ℕ) (distances : List ℕ) (s : SentFrame) (later : List SentFrame)
    → ((Fits time room s) × (chosen pt distances time room distance (s ∷ later) ≡ older_block pt time s ∷ chosen pt distances time (room - (4 + length s.payload)) (distance + 1) later))
    ⊎ (chosen pt distances time room distance (s ∷ later) ≡ chosen pt distances time room (distance + 1) later)
step pt time room distance distances s later = elim (tells (list_any (λ d. eqb d distance) distances && fits time room s)) [
  | inl taken ↦ inl (fits_is time room s ((and_parts _ _ taken).1), rw taken refl)
  | inr passed ↦ inr (rw passed refl)
]

chosen_redundant : (pt time room distance : ℕ) (distances : List ℕ) (sent : List SentFrame) → pt < 128 → AllByRecursion IsRedundant (chosen pt distances time room distance sent)
chosen_redundant pt time room distance distances [] small = tt
chosen_redundant pt time room distance distances (s ∷ later) small = elim (step pt time room distance distances s later) [
  | inl taken ↦
      let e = taken.1 in
      let one = older_is pt time room s small taken.0 in
      let others = chosen_redundant pt time (room - (4 + length s.payload)) (distance + 1) distances later small in
      rw e (one, others)
  | inr passed ↦ rw passed (chosen_redundant pt time room (distance + 1) distances later small)
]

chosen_size : (pt time room distance : ℕ) (distances : List ℕ) (sent : List SentFrame) → size (chosen pt distances time room distance sent) ≤ room
chosen_size pt time room distance distances [] = omega arith
chosen_size pt time room distance distances (s ∷ later) = elim (step pt time room distance distances s later) [
  | inl taken ↦
      let e = taken.1 in
      let roomy = taken.0.roomy in
      let others = chosen_size pt time (room - (4 + length s.payload)) (distance + 1) distances later in
      rw e (omega (arith, roomy, others))
  | inr passed ↦ rw passed (chosen_size pt time room (distance + 1) distances later)
]

red_onto : (xs : List Block) (b : Block) (bs : List Block) → AllByRecursion IsRedundant xs → IsRed (b ∷ bs) → IsRed (reverse_aux xs (b ∷ bs))
red_onto [] b bs all w = w
red_onto (x ∷ xs) b bs all w = red_onto xs x (b ∷ bs) all.1 (all.0, w)

size_onto : (xs bs : List Block) → size (reverse_aux xs bs) ≡ size xs + size bs
size_onto [] bs = omega arith
size_onto (x ∷ xs) bs = omega (arith, size_onto xs (x ∷ bs))

size_is : (bs : List Block) → length (flat_map header_bytes bs) + length (flat_map (λ (b : Block). b.payload) bs) ≡ size bs
size_is [] = refl
size_is (b ∷ bs) =
    omega (arith, size_is bs, length-append (header_bytes b) (flat_map header_bytes bs), length-append b.payload (flat_map (λ (x : Block). x.payload) bs))

bytes_size : (bs : List Block) → length (red_bytes bs) ≡ size bs
unfolding red_bytes
bytes_size bs = length-append (flat_map header_bytes bs) (flat_map (λ (b : Block). b.payload) bs) ∙ size_is bs

pub sent_again : FramesAreSentAgain
sent_again s time frame limit =
    let primary : Block = first_block s.pt frame in
    let room : ℕ = limit - 1 - length frame in
    let older : List Block = chosen s.pt s.distances time room 1 s.sent in
    record {
      reads = λ small.
          let last : IsPrimary primary = record { primary = refl; pt = small; offset = refl } in
          red_again (reverse_aux older (primary ∷ [])) (red_onto older primary [] (chosen_redundant s.pt time room 1 s.distances s.sent small) last);
      within = λ fits.
          omega (arith, fits, bytes_size (reverse_aux older (primary ∷ [])), size_onto older (primary ∷ []), chosen_size s.pt time room 1 s.distances s.sent);
    }
