use Rattle.std.proofs.Common.{[], ◌∷◌, arith}
use Rattle.rtcp_wire.specs.declared.packet.Rtcp.TheVariants.{SourceDescription}
use Rattle.session_core.proofs.Fitting.{brief_fits}
use Rattle.session_core.proofs.reporting.push_description.Goals as goal

pub returns-clause-fit : goal.returns-clause-fit
returns-clause-fit c = (
  SourceDescription c.in_ok-names.names ∷ [],
  c.in_ok-push_back.ensures.items,
  (brief_fits (SourceDescription c.in_ok-names.names) c.items_fit_by_lengths.ensures (c.args.ssrc, c.args.cname.now, omega arith, c.in_ok-names.ensures), tt),
)
