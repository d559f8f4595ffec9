use Rattle.std.proofs.Common.{◌∷◌, refl}
use Rattle.media_model.specs.declared.entry.Entry.TheVariants.{Ticked}
use Rattle.media_model.specs.declared.step.Act.TheVariants.{Tick}
use Rattle.media_laws.specs.Play.{ticked}
use Rattle.media_play.specs.declared.fault.StepError.TheVariants.{Memory}
use Rattle.media_play.specs.Acting.{RefusesAct}
use Rattle.media_play.specs.Packets.{seals_from}
use Rattle.media_play.proofs.Refusals.{memory_refused, stop_refused, tick_refused}
use Rattle.media_play.proofs.Steps.{handed_on}
use Rattle.media_play.proofs.acting.tick.Goals as goal

pub returns-in_err-log_tick-in-Ok-clause-refused : goal.returns-in_err-log_tick-in-Ok-clause-refused
returns-in_err-log_tick-in-Ok-clause-refused g c =
    handed_on (RefusesAct g.C.SrtpCipher.meaning c.args.end.now c.tick.new.self c.args.log.now c.log_tick.new.log c.args.side c.args.time Tick) c.from_residual.result Memory
    c.from_residual.ensures.1 (memory_refused c.log_tick.ensures.longer)

pub returns-in_ok-log_tick-in-Ok-clause-acts : goal.returns-in_ok-log_tick-in-Ok-clause-acts
returns-in_ok-log_tick-in-Ok-clause-acts g c setup a at index =
    let sealed = seals_from c.args.side c.in-Ok.datagrams.items in
    let on = c.in-Ok.ensures.sealed setup a c.args.log.now at in (
      Ticked c.args.side c.args.time ∷ sealed,
      c.in_ok-log_tick-in-Ok.ensures.done,
      record { valid = refl; are_of = ticked c.args.side c.args.time sealed on.right; turns = on.turns },
    )

pub returns-in_err-log_tick-in-Err-clause-refused : goal.returns-in_err-log_tick-in-Err-clause-refused
returns-in_err-log_tick-in-Err-clause-refused g c =
    handed_on (RefusesAct g.C.SrtpCipher.meaning c.args.end.now c.tick.new.self c.args.log.now c.log_tick-in-Err.new.log c.args.side c.args.time Tick) c.from_residual-in_err-log_tick-in-Err.result
    Memory c.from_residual-in_err-log_tick-in-Err.ensures.1 (memory_refused c.log_tick-in-Err.ensures.longer)

pub returns-in_ok-log_tick-in-Err-clause-refused : goal.returns-in_ok-log_tick-in-Err-clause-refused
returns-in_ok-log_tick-in-Err-clause-refused g c =
    let K = g.C.SrtpCipher.meaning in
    let side = c.args.side in
    let time = c.args.time in
    let cause = c.in-Err.fault.cause in
    let told = Ticked side time ∷ seals_from side c.in-Err.fault.sealed.items in
    stop_refused cause c.in-Err.ensures.stops
    (λ setup a at index. (told, c.in_ok-log_tick-in-Err.ensures.done, tick_refused K setup side a c.args.log.now time cause told (c.in-Err.ensures.refused setup a c.args.log.now at)))
