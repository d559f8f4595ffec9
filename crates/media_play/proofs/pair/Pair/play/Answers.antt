use Rattle.std.proofs.Common.{◌≡◌, ◌≢◌, false, None, sym, subst, ◌∙◌}
use Rattle.media_laws.specs.Rules.{time_fault}
use Rattle.media_play.specs.declared.fault.StepError.{StepError}
use Rattle.media_play.specs.declared.fault.StepError.TheVariants.{Rule, Stopped}
use Rattle.media_play.specs.Errors.{stops_at}
use Rattle.media_play.specs.Running.{RunState, IsRunOf, PlaysOn, Refuses}
use Rattle.media_play.proofs.Steps.{acts_a, acts_b, refused_a, refused_b, refused_in_time, in_time_inside, handed_on}
use Rattle.media_play.proofs.pair.Pair.play.Goals as goal
use Rattle.media_play.proofs.pair.Pair.play.Goals.{in-A+in_ok-act-in-A, in-B+in_ok-act-in-B}

pub returns-in_err-check_time-clause-refused : goal.returns-in_err-check_time-clause-refused
returns-in_err-check_time-clause-refused g c =
    let K = g.C.SrtpCipher.meaning in
    let run = c.args.self.now in
    let step = c.args.step.now in
    let fault = c.in_err-check_time.field-0.0 in
    handed_on (λ (d : StepError). Refuses K run step d run.log) c.from_residual.result (Rule fault) c.from_residual.ensures.1
    (λ setup steps is_run. refused_in_time is_run step fault (c.in_err-check_time.ensures.fault run.log is_run.time))

pub returns-in_err-act-in-A-clause-refused : goal.returns-in_err-act-in-A-clause-refused
returns-in_err-act-in-A-clause-refused g c =
    let K = g.C.SrtpCipher.meaning in
    let step = c.args.step.now in
    let e = c.in_err-act-in-A.field-0.0 in
    let log = c.act.new.log in
    let run : RunState = record { a = c.self.inside.a; b = c.self.inside.b; log = c.self.inside.log; latest = c.self.inside.latest } in
    handed_on (λ (d : StepError). Refuses K c.args.self.now step d log) c.from_residual-in_err-act-in-A.result e c.from_residual-in_err-act-in-A.ensures.1
    (subst (λ (r : RunState). Refuses K r step e log) c.self.view_is
    (λ setup steps here.
    let fine = in_time_inside run c.args.self.now c.self.view_is step.time (c.in_ok-check_time.ensures.fault c.args.self.now.log) here.time in
    refused_a here step c.act.new.end log e c.in-A.is fine c.in_err-act-in-A.ensures.refused))

pub returns-in_err-act-in-A-clause-unchanged : goal.returns-in_err-act-in-A-clause-unchanged
returns-in_err-act-in-A-clause-unchanged g c =
    let e = c.in_err-act-in-A.field-0.0 in
    let run : RunState = record { a = c.self.inside.a; b = c.self.inside.b; log = c.self.inside.log; latest = c.self.inside.latest } in
    let after : RunState = record run { a = c.act.new.end; log = c.act.new.log } in
    handed_on (λ (d : StepError). stops_at d ≡ false → after ≡ c.args.self.now) c.from_residual-in_err-act-in-A.result e c.from_residual-in_err-act-in-A.ensures.1
    (λ goes.
    let same = c.in_err-act-in-A.ensures.refused.unchanged goes in
    (λ i. record run { a = same.0 i; log = same.1 i }) ∙ c.self.view_is)

pub returns-in_err-act-in-A-clause-goes : goal.returns-in_err-act-in-A-clause-goes
returns-in_err-act-in-A-clause-goes g c =
    handed_on (λ (d : StepError). d ≢ Stopped) c.from_residual-in_err-act-in-A.result c.in_err-act-in-A.field-0.0 c.from_residual-in_err-act-in-A.ensures.1
    c.in_err-act-in-A.ensures.refused.goes

pub returns-in_err-act-in-B-clause-refused : goal.returns-in_err-act-in-B-clause-refused
returns-in_err-act-in-B-clause-refused g c =
    let K = g.C.SrtpCipher.meaning in
    let step = c.args.step.now in
    let e = c.in_err-act-in-B.field-0.0 in
    let log = c.act-in-B.new.log in
    let run : RunState = record { a = c.self.inside.a; b = c.self.inside.b; log = c.self.inside.log; latest = c.self.inside.latest } in
    handed_on (λ (d : StepError). Refuses K c.args.self.now step d log) c.from_residual-in_err-act-in-B.result e c.from_residual-in_err-act-in-B.ensures.1
    (subst (λ (r : RunState). Refuses K r step e log) c.self.view_is
    (λ setup steps here.
    let fine = in_time_inside run c.args.self.now c.self.view_is step.time (c.in_ok-check_time.ensures.fault c.args.self.now.log) here.time in
    refused_b here step c.act-in-B.new.end log e c.in-B.is fine c.in_err-act-in-B.ensures.refused))

pub returns-in_err-act-in-B-clause-unchanged : goal.returns-in_err-act-in-B-clause-unchanged
returns-in_err-act-in-B-clause-unchanged g c =
    let e = c.in_err-act-in-B.field-0.0 in
    let run : RunState = record { a = c.self.inside.a; b = c.self.inside.b; log = c.self.inside.log; latest = c.self.inside.latest } in
    let after : RunState = record run { b = c.act-in-B.new.end; log = c.act-in-B.new.log } in
    handed_on (λ (d : StepError). stops_at d ≡ false → after ≡ c.args.self.now) c.from_residual-in_err-act-in-B.result e c.from_residual-in_err-act-in-B.ensures.1
    (λ goes.
    let same = c.in_err-act-in-B.ensures.refused.unchanged goes in
    (λ i. record run { b = same.0 i; log = same.1 i }) ∙ c.self.view_is)

pub returns-in_err-act-in-B-clause-goes : goal.returns-in_err-act-in-B-clause-goes
returns-in_err-act-in-B-clause-goes g c =
    handed_on (λ (d : StepError). d ≢ Stopped) c.from_residual-in_err-act-in-B.result c.in_err-act-in-B.field-0.0 c.from_residual-in_err-act-in-B.ensures.1
    c.in_err-act-in-B.ensures.refused.goes

pub returns-clause-played : goal.returns-clause-played
returns-clause-played g c setup steps is_run =
    let K = g.C.SrtpCipher.meaning in
    let step = c.args.step.now in
    let run : RunState = record { a = c.self.inside.a; b = c.self.inside.b; log = c.self.inside.log; latest = c.self.inside.latest } in
    let here : IsRunOf K setup steps run = subst (λ (r : RunState). IsRunOf K setup steps r) (sym c.self.view_is) is_run in
    let fine : time_fault run.log step.time ≡ None = subst (λ (r : RunState). time_fault r.log step.time ≡ None) (sym c.self.view_is) (c.in_ok-check_time.ensures.fault c.args.self.now.log is_run.time) in
    elim c.match-side.branch [
      | in-A+in_ok-act-in-A w ↦
          let new : RunState = record { a = w.act.new.end; b = run.b; log = w.act.new.log; latest = step.time } in
          rw w.self-inside-is
          (subst (λ (r : RunState). PlaysOn K setup steps r step new) c.self.view_is
          (acts_a here step w.act.new.end w.act.new.log w.in-A.is fine w.in_ok-act-in-A.ensures.acts))
      | in-B+in_ok-act-in-B w ↦
          let new : RunState = record { a = run.a; b = w.act-in-B.new.end; log = w.act-in-B.new.log; latest = step.time } in
          rw w.self-inside-is
          (subst (λ (r : RunState). PlaysOn K setup steps r step new) c.self.view_is
          (acts_b here step w.act-in-B.new.end w.act-in-B.new.log w.in-B.is fine w.in_ok-act-in-B.ensures.acts))
    ]
