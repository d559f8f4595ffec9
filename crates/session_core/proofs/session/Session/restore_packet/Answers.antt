use Rattle.std.proofs.Common.{◌≡◌, ℕ, Option, Some, sym, subst}
use Rattle.std.specs.Prelude.{OnOk}
use Rattle.stream_core.specs.Tables.{place_of}
use Rattle.session_core.specs.Receiving.{after_restoring}
use Rattle.session_core.specs.SessionRecord.{SessionRecord, StandsFor}
use Rattle.session_core.proofs.session.Session.restore_packet.Goals as goal

pub returns-in_default-clause-ok : goal.returns-in_default-clause-ok
returns-in_default-clause-ok g c = λ r h place.
    subst (λ (l : Option ℕ). StandsFor g.W.GapWindow.remembers g.S.ResendStore.stands_for c.args.self.now (after_restoring c.args.now c.args.header.now c.args.original l c.args.payload r))
    (sym c.in_default.is) h

pub returns-clause-ok : goal.returns-clause-ok
returns-clause-ok g c =
    let R = g.W.GapWindow.remembers in
    let S = g.S.ResendStore.stands_for in
    subst (λ (l : Option ℕ). OnOk c.restore.result ((r : SessionRecord) → StandsFor R S c.args.self.now r → place_of c.args.original c.args.self.now.rx ≡ Some c.args.place
    → StandsFor R S c.restore.new.self (after_restoring c.args.now c.args.header.now c.args.original l c.args.payload r)))
    (sym c.in-Some.is) c.restore.ensures.ok
