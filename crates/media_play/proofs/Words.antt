-- Numbers of 32 bits.
use Rattle.std.proofs.Common.{ℕ, suc, ◌<◌, ◌^◌, List, [], ◌∷◌, get_or}
use Rattle.rtp_wire.specs.BytesLaws.{AreWords}

pub are_words : (words : List ℕ) → ((k : ℕ) → get_or words k 0 < 2 ^ 32) → AreWords words
are_words [] h = tt
are_words (w ∷ ws) h = (h 0, are_words ws (λ k. h (suc k)))
