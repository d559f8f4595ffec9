use Rattle.std.proofs.Common.{◌≡◌, None}
use Rattle.media_play.specs.Ends.{SessionStands}
use Rattle.session_core.specs.Calls.{events_in, told, after_events}
use Rattle.session_core.specs.SessionRecord.{SessionRecord}
use Rattle.media_play.specs.Packets.{packet_in}
use Rattle.media_play.proofs.end.take_packet.Given as goal

abbrev pub invariant-loop-event : goal.invariant-loop-event
invariant-loop-event g l = (r : SessionRecord) → SessionStands l.fn.session r
    → (between : SessionRecord) × SessionStands l.session between
    × (packet_in (told between) l.packet ≡ packet_in (told r) None) × (after_events between ≡ after_events r)

abbrev pub decreases-loop-event : goal.decreases-loop-event
decreases-loop-event g l = events_in l.session
