use Rattle.std.proofs.Common.{◌≡◌, ◌++◌, List, true, take}
use Rattle.std.specs.List.{filter_map}
use Rattle.srtp_core.specs.Cipher.{CipherMeaning}
use Rattle.session_core.specs.Sending.{has_mid}
use Rattle.media_model.specs.Sides.{peer_of}
use Rattle.run_model.specs.Events.{Outgoing}
use Rattle.run_model.specs.Transcripts.{outgoing_in}
use Rattle.media_play.specs.Starting.{AreOnce, Starts}
use Rattle.media_play.proofs.starting.add_streams.Given as goal

abbrev pub invariant-loop-stream : goal.invariant-loop-stream
invariant-loop-stream g l = record {
  medias : l.session.state.medias ≡ l.fn.session.state.medias;
  starts : (cipher : CipherMeaning) (sent received : List Outgoing) → has_mid l.mid l.fn.session.state.medias ≡ true
      → AreOnce (sent ++ filter_map (outgoing_in l.setup l.side) l.streams) → AreOnce (received ++ filter_map (outgoing_in l.setup (peer_of l.side)) l.streams)
      → Starts cipher l.setup l.side sent received l.fn.session
      → Starts cipher l.setup l.side (sent ++ filter_map (outgoing_in l.setup l.side) (take l.stream-index l.streams))
      (received ++ filter_map (outgoing_in l.setup (peer_of l.side)) (take l.stream-index l.streams)) l.session;
}
