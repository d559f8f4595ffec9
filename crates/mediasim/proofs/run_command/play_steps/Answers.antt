use Rattle.std.proofs.Common.{string_bytes, subst}
use Rattle.media_play.specs.declared.fault.RunError.{RunError}
use Rattle.media_play.specs.Running.{HasCause, HoldsUntil}
use Rattle.mediasim.specs.Lines.{bytes_of}
use Rattle.mediasim.specs.RunCommand.{script_cipher, script_sealing}
use Rattle.mediasim.proofs.Runs.{key_ends, setup_ends, step_ends, done_ends, memory_ends}
use Rattle.mediasim.proofs.run_command.play_steps.Goals as goal

pub returns-in-Step-clause-ended : goal.returns-in-Step-clause-ended
returns-in-Step-clause-ended c =
    let setup = c.args.setup.now in
    let steps = c.args.steps.items in
    let sofar = c.in-Err.fault.sofar in
    let e = c.in-Err.ensures in
    step_ends (λ text. string_bytes text) setup steps c.in-Step.number c.in-Step.rule sofar c.new-in-Step.result.entries c.step_line.result c.new-in-Step.result.end (bytes_of c.new-in-Step.result.last)
    c.new-in-Step.ensures.last c.step_line.ensures c.new-in-Step.ensures.entries
    (subst (λ (x : RunError). HasCause (script_cipher setup) setup steps sofar x) c.in-Step.is e.cause)
    (subst (λ (x : RunError). HoldsUntil (script_sealing setup) setup x sofar) c.in-Step.is e.holds)

pub returns-in-Setup-clause-ended : goal.returns-in-Setup-clause-ended
returns-in-Setup-clause-ended c =
    let setup = c.args.setup.now in
    let steps = c.args.steps.items in
    let sofar = c.in-Err.fault.sofar in
    let e = c.in-Err.ensures in
    setup_ends (λ text. string_bytes text) setup steps c.in-Setup.rule sofar c.new-in-Setup.result.entries c.setup_line.result c.new-in-Setup.result.end (bytes_of c.new-in-Setup.result.last)
    c.new-in-Setup.ensures.last c.setup_line.ensures c.new-in-Setup.ensures.entries
    (subst (λ (x : RunError). HasCause (script_cipher setup) setup steps sofar x) c.in-Setup.is e.cause)

pub returns-in-Ok-clause-ended : goal.returns-in-Ok-clause-ended
returns-in-Ok-clause-ended c =
    let e = c.in-Ok.ensures in
    done_ends (λ text. string_bytes text) c.args.setup.now c.args.steps.items c.in-Ok.transcript c.new.result.entries c.last_line-line.result c.new.result.end (bytes_of c.new.result.last)
    c.new.ensures.last c.last_line-line.ensures c.new.ensures.entries e.played.0 e.played.1
    e.holds

pub returns-in-Memory-clause-ended : goal.returns-in-Memory-clause-ended
returns-in-Memory-clause-ended c =
    let setup = c.args.setup.now in
    let steps = c.args.steps.items in
    let sofar = c.in-Err.fault.sofar in
    let e = c.in-Err.ensures in
    memory_ends setup steps sofar c.out_of_memory.result.entries c.out_of_memory.result.end (bytes_of c.out_of_memory.result.last)
    c.out_of_memory.ensures.end c.out_of_memory.ensures.last c.out_of_memory.ensures.entries
    (subst (λ (x : RunError). HasCause (script_cipher setup) setup steps sofar x) c.in-Memory.is e.cause)

pub returns-in-KeyExhausted-clause-ended : goal.returns-in-KeyExhausted-clause-ended
returns-in-KeyExhausted-clause-ended c =
    let setup = c.args.setup.now in
    let steps = c.args.steps.items in
    let sofar = c.in-Err.fault.sofar in
    let e = c.in-Err.ensures in
    key_ends (λ text. string_bytes text) setup steps c.in-KeyExhausted.side c.in-KeyExhausted.counter sofar c.new-in-KeyExhausted.result.entries c.key_line-line.result c.new-in-KeyExhausted.result.end (bytes_of c.new-in-KeyExhausted.result.last)
    c.new-in-KeyExhausted.ensures.last c.key_line-line.ensures c.new-in-KeyExhausted.ensures.entries
    (subst (λ (x : RunError). HasCause (script_cipher setup) setup steps sofar x) c.in-KeyExhausted.is e.cause)
    (subst (λ (x : RunError). HoldsUntil (script_sealing setup) setup x sofar) c.in-KeyExhausted.is e.holds)
