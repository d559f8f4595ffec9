use Rattle.rtcp_wire.specs.declared.packet.Rtcp.TheVariants.{Twcc}
use Rattle.rtcp_tests.proofs.compounds.writable.Goals as goal

pub returns : goal.returns
returns c = c.items_fit_by_lengths.ensures (Twcc c.args.twcc) c.requires
