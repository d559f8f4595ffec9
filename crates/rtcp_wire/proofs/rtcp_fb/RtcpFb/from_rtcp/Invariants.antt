use Rattle.std.proofs.Common.{◌≡◌}
use Rattle.std.specs.List.{flat_map}
use Rattle.rtcp_wire.specs.Streams.{feedback_of}
use Rattle.rtcp_wire.proofs.rtcp_fb.RtcpFb.from_rtcp.Given as goal

abbrev pub invariant-loop-item : goal.invariant-loop-item
invariant-loop-item l = l.feedback.items ≡ flat_map feedback_of l.yielded
