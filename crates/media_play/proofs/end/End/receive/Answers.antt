use Rattle.std.proofs.Common.{List, Option, sym, subst}
use Rattle.std.specs.Prelude.{IfOk}
use Rattle.rtp_base.specs.declared.kind.Kind.{Kind}
use Rattle.media_model.specs.declared.entry.Entry.{Entry}
use Rattle.media_model.specs.declared.entry.Side.{Side}
use Rattle.media_model.specs.declared.setup.Setup.{Setup}
use Rattle.run_model.specs.Whole.{Session}
use Rattle.media_laws.specs.Opening.{got_as}
use Rattle.media_play.specs.declared.end.Received.{Received}
use Rattle.media_play.specs.Sessions.{ReadyAt, TakesIn}
use Rattle.media_play.proofs.end.End.receive.Goals as goal

pub returns-in-Rtp : goal.returns-in-Rtp
returns-in-Rtp g c =
    let K = g.C.SrtpCipher.meaning in
    subst
    (λ (kind : Kind). IfOk c.receive_rtp.result (λ (received : Option Received). (setup : Setup) (side : Side) (a : Session) (entries : List Entry)
    → ReadyAt K setup side c.args.self.now a entries c.args.time
    → TakesIn K setup side a c.receive_rtp.new.self entries (got_as side c.args.time kind c.args.bytes.now) received))
    (sym c.in-Rtp.is) c.receive_rtp.ensures

pub returns-in-Rtcp : goal.returns-in-Rtcp
returns-in-Rtcp g c =
    let K = g.C.SrtpCipher.meaning in
    subst
    (λ (kind : Kind). IfOk c.receive_rtcp.result (λ (received : Option Received). (setup : Setup) (side : Side) (a : Session) (entries : List Entry)
    → ReadyAt K setup side c.args.self.now a entries c.args.time
    → TakesIn K setup side a c.receive_rtcp.new.self entries (got_as side c.args.time kind c.args.bytes.now) received))
    (sym c.in-Rtcp.is) c.receive_rtcp.ensures
