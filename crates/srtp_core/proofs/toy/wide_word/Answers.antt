use Rattle.std.proofs.Common.{[], ◌∷◌, ◌∙◌, ap}
use Rattle.std.specs.Simd.Lanes.{digits_l, number_l}
use Rattle.srtp_core.proofs.Words.{word_digits}
use Rattle.srtp_core.proofs.toy.wide_word.Goals as goal

pub returns : goal.returns
returns c =
    ap (λ s. digits_l 256 16 (number_l 4294967296 (0 ∷ 0 ∷ 0 ∷ s ∷ []))) c.swap_bytes.ensures
    ∙ word_digits c.args.word c.ranges.word.fits
