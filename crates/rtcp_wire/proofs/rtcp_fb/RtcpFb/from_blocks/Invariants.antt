use Rattle.std.proofs.Common.{◌≡◌, take}
use Rattle.std.specs.List.{flat_map}
use Rattle.rtcp_wire.specs.Streams.{feedback_of_block}
use Rattle.rtcp_wire.proofs.rtcp_fb.RtcpFb.from_blocks.Given as goal

abbrev pub invariant-loop-block : goal.invariant-loop-block
invariant-loop-block l = l.feedback.items ≡ flat_map (feedback_of_block l.ssrc) (take l.block-index l.blocks)
