use Rattle.std.proofs.Common.{ℕ, List, sym, subst}
use Rattle.stream_core.specs.Repairing.{RepairsRecord, RepairsStandFor}
use Rattle.stream_core.specs.Tables.{Along}
use Rattle.session_core.specs.Hearing.{HearsFront, AsksFront, MomentsFront, NewsFront}
use Rattle.session_core.specs.SessionRecord.{SessionView}
use Rattle.session_core.proofs.session.Session.handle_rtcp_receive.Goals as goal

pub returns-in-Err-clause-heard : goal.returns-in-Err-clause-heard
returns-in-Err-clause-heard g c = λ is.
    subst (λ (v : SessionView g.row.W.Denot g.row.S.Denot). HearsFront g.C.SrtpCipher.meaning c.args.self.now.state.opening c.args.bytes.now c.args.self.now.state.tx v.state.tx)
    (sym c.self-2.view_is) c.in-Err.ensures.heard

pub returns-in-Err-clause-asked : goal.returns-in-Err-clause-asked
returns-in-Err-clause-asked g c = λ is r h.
    subst (λ (v : SessionView g.row.W.Denot g.row.S.Denot). (after : List (ℕ × RepairsRecord)) × AsksFront g.C.SrtpCipher.meaning r.state.opening c.args.bytes.now c.args.now r.repairs after × Along (RepairsStandFor g.S.ResendStore.stands_for) v.repairs after)
    (sym c.self-2.view_is) (c.in-Err.ensures.asked r h)

pub returns-in-Err-clause-waiting : goal.returns-in-Err-clause-waiting
returns-in-Err-clause-waiting g c = λ is.
    subst (λ (v : SessionView g.row.W.Denot g.row.S.Denot). MomentsFront g.C.SrtpCipher.meaning c.args.self.now.state.opening c.args.bytes.now c.args.now c.args.self.now.state.moments v.state.moments)
    (sym c.self-2.view_is) c.in-Err.ensures.waiting

pub returns-in-Err-clause-told : goal.returns-in-Err-clause-told
returns-in-Err-clause-told g c = λ is r h.
    subst (λ (v : SessionView g.row.W.Denot g.row.S.Denot). NewsFront g.C.SrtpCipher.meaning r.state.opening c.args.bytes.now c.args.now r.state.tx r.rx r.state.news v.state.news)
    (sym c.self-2.view_is) (c.in-Err.ensures.told r h)
