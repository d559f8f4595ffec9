-- How long the bytes of a header are.
use Rattle.std.proofs.Common.{◌≡◌, ℕ, ◌-◌, ◌*◌, ◌≤◌, List, [], ◌∷◌, length, replicate, ap, ◌∙◌, arith, length-append, length-take}
use Rattle.std.specs.List.{flat_map}
use Rattle.std.specs.Int.{w32, to_be_bytes}
use Rattle.std.proofs.lemmas.List.{length-take-le, length-replicate}
use Rattle.rtp_wire.specs.Extensions.{written_data, words_for, with_data, extension_bytes}
use Rattle.rtp_wire.specs.Header.{csrc_of, header_bytes}
use Rattle.rtp_wire.specs.HeaderLaws.{PlainIsAsLong, HasFixedBytes, HasFewBytes}
use Rattle.rtp_wire.proofs.WordsAgain.{length-flat_words}
use Rattle.rtp_wire.proofs.ValueLengths.{data_bound}
use Rattle.rtp_wire.proofs.HeadersAgain.{nothing_written}

pub plain_is_as_long : PlainIsAsLong
unfolding header_bytes
plain_is_as_long exts h none few =
    let sources = csrc_of h in
    let extension = extension_bytes exts h.ext_vals in
    let empty : length extension ≡ 0 = ap length (ap (extension_bytes exts) none ∙ nothing_written exts) in
    omega (arith, empty, length-append (flat_map (to_be_bytes w32) sources) extension, length-flat_words sources, length-take-le h.csrc_count h.csrc few)

pub has_fixed_bytes : HasFixedBytes
unfolding header_bytes
has_fixed_bytes exts h =
    omega (arith, length-append (flat_map (to_be_bytes w32) (csrc_of h)) (extension_bytes exts h.ext_vals))

data_fits : (bytes : List ℕ) → length bytes ≤ 75 → length (with_data bytes) ≤ 80
data_fits [] few = omega arith
data_fits (b ∷ bytes) few =
    let n : ℕ = words_for (length (b ∷ bytes)) in
    let more : ℕ = 4 * n - length (b ∷ bytes) in
    omega (arith, few, length-append (b ∷ bytes) (replicate more 0), length-replicate {A = ℕ} more 0)

pub has_few_bytes : HasFewBytes
unfolding header_bytes extension_bytes
has_few_bytes exts h few =
    let sources = csrc_of h in
    let extension = extension_bytes exts h.ext_vals in
    let fits : length extension ≤ 80 = data_fits (written_data exts h.ext_vals) (data_bound exts h.ext_vals) in
    omega (arith, few, fits, length-append (flat_map (to_be_bytes w32) sources) extension, length-flat_words sources, length-take h.csrc_count h.csrc)
