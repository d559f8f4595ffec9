use Rattle.std.proofs.Common.{OnOk, IfErr, sym, subst}
use Rattle.media_model.specs.declared.step.Act.{Act}
use Rattle.media_play.specs.Acting.{Acts, RefusesAct}
use Rattle.media_play.proofs.acting.act.Goals as goal

pub returns-in-Write-clause-acts : goal.returns-in-Write-clause-acts
returns-in-Write-clause-acts g c =
    subst (λ (d : Act). OnOk c.write.result (Acts g.C.SrtpCipher.meaning c.args.end.now c.write.new.end c.args.log.now c.write.new.log c.args.side c.args.time d)) (sym c.in-Write.is) c.write.ensures.acts

pub returns-in-Write-clause-refused : goal.returns-in-Write-clause-refused
returns-in-Write-clause-refused g c =
    subst (λ (d : Act). IfErr c.write.result (RefusesAct g.C.SrtpCipher.meaning c.args.end.now c.write.new.end c.args.log.now c.write.new.log c.args.side c.args.time d)) (sym c.in-Write.is) c.write.ensures.refused

pub returns-in-Tick-clause-acts : goal.returns-in-Tick-clause-acts
returns-in-Tick-clause-acts g c =
    subst (λ (d : Act). OnOk c.tick.result (Acts g.C.SrtpCipher.meaning c.args.end.now c.tick.new.end c.args.log.now c.tick.new.log c.args.side c.args.time d)) (sym c.in-Tick.is) c.tick.ensures.acts

pub returns-in-Tick-clause-refused : goal.returns-in-Tick-clause-refused
returns-in-Tick-clause-refused g c =
    subst (λ (d : Act). IfErr c.tick.result (RefusesAct g.C.SrtpCipher.meaning c.args.end.now c.tick.new.end c.args.log.now c.tick.new.log c.args.side c.args.time d)) (sym c.in-Tick.is) c.tick.ensures.refused

pub returns-in-Deliver-clause-acts : goal.returns-in-Deliver-clause-acts
returns-in-Deliver-clause-acts g c =
    subst (λ (d : Act). OnOk c.deliver.result (Acts g.C.SrtpCipher.meaning c.args.end.now c.deliver.new.end c.args.log.now c.deliver.new.log c.args.side c.args.time d)) (sym c.in-Deliver.is) c.deliver.ensures.acts

pub returns-in-Deliver-clause-refused : goal.returns-in-Deliver-clause-refused
returns-in-Deliver-clause-refused g c =
    subst (λ (d : Act). IfErr c.deliver.result (RefusesAct g.C.SrtpCipher.meaning c.args.end.now c.deliver.new.end c.args.log.now c.deliver.new.log c.args.side c.args.time d)) (sym c.in-Deliver.is) c.deliver.ensures.refused

pub returns-in-Foreign-clause-acts : goal.returns-in-Foreign-clause-acts
returns-in-Foreign-clause-acts g c =
    subst (λ (d : Act). OnOk c.foreign.result (Acts g.C.SrtpCipher.meaning c.args.end.now c.foreign.new.end c.args.log.now c.foreign.new.log c.args.side c.args.time d)) (sym c.in-Foreign.is) c.foreign.ensures.acts

pub returns-in-Foreign-clause-refused : goal.returns-in-Foreign-clause-refused
returns-in-Foreign-clause-refused g c =
    subst (λ (d : Act). IfErr c.foreign.result (RefusesAct g.C.SrtpCipher.meaning c.args.end.now c.foreign.new.end c.args.log.now c.foreign.new.log c.args.side c.args.time d)) (sym c.in-Foreign.is) c.foreign.ensures.refused

pub returns-in-Feedback-clause-acts : goal.returns-in-Feedback-clause-acts
returns-in-Feedback-clause-acts g c =
    subst (λ (d : Act). OnOk c.feedback.result (Acts g.C.SrtpCipher.meaning c.args.end.now c.feedback.new.end c.args.log.now c.feedback.new.log c.args.side c.args.time d)) (sym c.in-Feedback.is) c.feedback.ensures.acts

pub returns-in-Feedback-clause-refused : goal.returns-in-Feedback-clause-refused
returns-in-Feedback-clause-refused g c =
    subst (λ (d : Act). IfErr c.feedback.result (RefusesAct g.C.SrtpCipher.meaning c.args.end.now c.feedback.new.end c.args.log.now c.feedback.new.log c.args.side c.args.time d)) (sym c.in-Feedback.is) c.feedback.ensures.refused

pub returns-in-Ask-clause-acts : goal.returns-in-Ask-clause-acts
returns-in-Ask-clause-acts g c =
    subst (λ (d : Act). OnOk c.request.result (Acts g.C.SrtpCipher.meaning c.args.end.now c.request.new.end c.args.log.now c.request.new.log c.args.side c.args.time d)) (sym c.in-Ask.is) c.request.ensures.acts

pub returns-in-Ask-clause-refused : goal.returns-in-Ask-clause-refused
returns-in-Ask-clause-refused g c =
    subst (λ (d : Act). IfErr c.request.result (RefusesAct g.C.SrtpCipher.meaning c.args.end.now c.request.new.end c.args.log.now c.request.new.log c.args.side c.args.time d)) (sym c.in-Ask.is) c.request.ensures.refused

pub returns-in-Rate-clause-acts : goal.returns-in-Rate-clause-acts
returns-in-Rate-clause-acts g c =
    subst (λ (d : Act). OnOk c.request-in-Rate.result (Acts g.C.SrtpCipher.meaning c.args.end.now c.request-in-Rate.new.end c.args.log.now c.request-in-Rate.new.log c.args.side c.args.time d)) (sym c.in-Rate.is) c.request-in-Rate.ensures.acts

pub returns-in-Rate-clause-refused : goal.returns-in-Rate-clause-refused
returns-in-Rate-clause-refused g c =
    subst (λ (d : Act). IfErr c.request-in-Rate.result (RefusesAct g.C.SrtpCipher.meaning c.args.end.now c.request-in-Rate.new.end c.args.log.now c.request-in-Rate.new.log c.args.side c.args.time d)) (sym c.in-Rate.is) c.request-in-Rate.ensures.refused
