use Rattle.std.proofs.Common.{List, sym, subst}
use Rattle.std.specs.List.{AllByRecursion}
use Rattle.rtcp_wire.specs.declared.packet.Rtcp.{Rtcp}
use Rattle.session_core.specs.Feedback.{FitsAlone}
use Rattle.session_core.proofs.Fitting.{application_fits, one_more_fits}
use Rattle.session_core.proofs.session.Session.send_app_specific_feedback.Goals as goal

pub invariant_of-self : goal.invariant_of-self
invariant_of-self g c = record {
  polls = c.self.invariant.polls;
  wide = c.self.invariant.wide;
  left = c.self.invariant.left;
  fit =
      subst (λ (xs : List Rtcp). AllByRecursion FitsAlone xs) (sym c.in-Ok.ensures.items)
      (one_more_fits c.self.inside.feedback.items _ c.self.invariant.fit (application_fits _ c.items_fit_by_lengths.ensures c.requires.whole c.requires.few));
}
