use Rattle.std.proofs.Common.{◌≡◌, ℕ, ◌+◌, ◌*◌, List, [], ◌∷◌, ◌++◌, length, replicate, Some, subst, arith}
use Rattle.std.proofs.lemmas.Grind.{common_steps}
use Rattle.std.specs.List.{flat_map}
use Rattle.rtp_base.specs.Wire.{halves, words, Puts}
use Rattle.twcc_core.specs.Statuses.{delta_text}
use Rattle.twcc_core.specs.Chunks.{chunks_of}
use Rattle.twcc_core.specs.Feedback.{fill_of, twcc_fields, twcc_bytes}
use Rattle.rtp_base.specs.Fields.{bits24}
use Rattle.twcc_core.specs.declared.feedback.Twcc.{Twcc}
use Rattle.twcc_core.proofs.Rows.{puts_on, behind_more, behind_on, zeros_are}
use Rattle.twcc_core.proofs.feedback.write_twcc.Goals as goal

pub returns-clause-text : goal.returns-clause-text
unfolding twcc_bytes twcc_fields
returns-clause-text c =
    let t : Twcc = c.args.twcc.now in
    let old : List ℕ = c.args.out.now in
    let head : List ℕ = words (t.sender_ssrc ∷ t.ssrc ∷ (t.base_seq * 65536 + length t.rows) ∷ (bits24 t.reference_time * 256 + t.feedback_count) ∷ []) in
    let one : Puts old 0 head c.write_words.new.out (Some c.in_ok-at.at) = rw (c.into.ensures, c.into-2.ensures, c.from.ensures, c.word_of.ensures, c.reference_bits.ensures.value, c.len.ensures) at c.in_ok-at.ensures.text in
    let two : Puts c.write_words.new.out c.in_ok-at.at (halves (chunks_of t.rows)) c.write_chunks.new.out (Some c.in_ok-at-2.at) = rw c.iter.ensures at c.in_ok-at-2.ensures.text in
    let three : Puts c.write_chunks.new.out c.in_ok-at-2.at (flat_map delta_text t.rows) c.write_deltas.new.out (Some c.in_ok-at-3.at) = rw c.iter-2.ensures at c.in_ok-at-3.ensures.text in
    let four : Puts c.write_deltas.new.out c.in_ok-at-3.at (replicate (fill_of c.in_ok-at-3.at) 0) c.put.new.out c.put.result = rw (zeros_are (fill_of c.in_ok-at-3.at) (omega arith)) at c.put.ensures.text in
    let same : length c.write_words.new.out ≡ length old = grind (arith, common_steps) in
    let same' : length c.write_chunks.new.out ≡ length old = grind (arith, common_steps) in
    let same'' : length c.write_deltas.new.out ≡ length old = grind (arith, common_steps) in
    let front = puts_on head (halves (chunks_of t.rows)) old 0 c.write_words.new.out c.write_chunks.new.out c.in_ok-at.at (Some c.in_ok-at-2.at) same one two in
    let fields = puts_on (head ++ halves (chunks_of t.rows)) (flat_map delta_text t.rows) old 0 c.write_chunks.new.out c.write_deltas.new.out c.in_ok-at-2.at (Some c.in_ok-at-3.at) same' front three in
    let whole : List ℕ = head ++ halves (chunks_of t.rows) ++ flat_map delta_text t.rows in
    let end : c.in_ok-at-3.at ≡ length whole = omega (arith, fields.0) in
    puts_on whole (replicate (fill_of (length whole)) 0) old 0 c.write_deltas.new.out c.put.new.out c.in_ok-at-3.at c.put.result same'' fields (subst (λ n. Puts c.write_deltas.new.out c.in_ok-at-3.at (replicate (fill_of n) 0) c.put.new.out c.put.result) end four)

pub returns-clause-behind : goal.returns-clause-behind
returns-clause-behind c =
    let two = behind_more _ _ _ _ _ _ c.in_ok-at-2.ensures.text.0 c.in_ok-at.ensures.behind c.in_ok-at-2.ensures.behind in
    let three = behind_more _ _ _ _ _ _ c.in_ok-at-3.ensures.text.0 two c.in_ok-at-3.ensures.behind in
    behind_on _ _ _ _ _ c.put.result three c.put.ensures.text c.put.ensures.behind
