use Rattle.std.proofs.Common.{ℕ, ◌+◌, ◌*◌, List, ◌++◌, length, drop, ap, ◌∙◌}
use Rattle.std.specs.Prelude.{nat_lt}
use Rattle.rtp_wire.specs.Extensions.{extension_bytes}
use Rattle.rtp_wire.specs.Header.{fixed_bytes, header_bytes}
use Rattle.rtp_wire.proofs.HeadersAgain.{read_again, is_written}
use Rattle.rtp_wire.proofs.Written.{written}
use Rattle.rtp_wire.proofs.header.RtpHeader.write_to.Goals as goal

pub returns-clause-bytes : goal.returns-clause-bytes
unfolding header_bytes
returns-clause-bytes c =
    let h = c.args.self.now in
    let extension : List ℕ = extension_bytes c.args.exts.now h.ext_vals in
    let rest : List ℕ = drop (12 + 4 * h.csrc_count + c.write-extension.result) c.args.buf.now in
    let fixed = c.copy_from_slice.ensures.after ∙ c.fixed_bytes.ensures ∙ ap (λ (n : ℕ). fixed_bytes h (nat_lt 0 n)) c.write-extension.ensures.len in
    written c.copy_from_slice.new.self c.put_words.new.bytes extension c.args.buf.now _ _ c.write-extension.new.bytes (4 * h.csrc_count) c.write-extension.result c.split_at_mut-fixed.ensures.back c.split_at_mut-sources.ensures.back c.write-extension.ensures.bytes
    ∙ ap (λ (f : List ℕ). f ++ c.put_words.new.bytes ++ extension ++ rest) fixed
    ∙ ap (λ (s : List ℕ). fixed_bytes h (nat_lt 0 (length extension)) ++ s ++ extension ++ rest) c.put_words.ensures

pub returns-clause-reads : goal.returns-clause-reads
returns-clause-reads c = read_again c.args.exts.now c.args.self.now c.is_header.ensures (is_written c.args.exts.now c.args.self.now.ext_vals)
