use Rattle.std.proofs.Common.{take, ◌∙◌}
use Rattle.stream_core.proofs.Renaming.{all_but_original}
use Rattle.stream_core.proofs.known_streams.KnownStreams.expect.Goals as goal

pub returns-in-Err-clause-err : goal.returns-in-Err-clause-err
returns-in-Err-clause-err c =
    let originals = c.truncate.ensures ∙ (λ i. take (c.len-len.ensures i) (c.in_ok-put_original.ensures.ok i)) ∙ all_but_original c.args.stream.now.ssrc c.args.stream.now.rtx c.self.inside.originals in
    (λ j. record { originals = originals j; streams = c.in-Err.ensures.err j }) ∙ c.self.view_is
