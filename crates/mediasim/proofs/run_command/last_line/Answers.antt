use Rattle.std.proofs.Common.{string_bytes}
use Rattle.mediasim.proofs.Runs.{tells_whole}
use Rattle.mediasim.proofs.run_command.last_line.Goals as goal

pub returns : goal.returns
returns c =
    tells_whole (λ text. string_bytes text) c.args.setup.now c.args.transcript.now c.entries.result.now c.in_ok-repairs.repairs
    c.end_line.result c.in_ok-repairs.ensures c.entries.ensures c.end_line.ensures
