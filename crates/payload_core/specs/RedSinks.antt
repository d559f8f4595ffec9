-- A packet of media on its way through a sender of RED.
use Rattle.std.specs.Prelude.{◌≡◌}
use Rattle.payload_core.specs.declared.payload.MediaPacket.{MediaPacket}
use Rattle.payload_core.specs.declared.red_sink.RedSink.{RedSink}
use Rattle.payload_core.specs.Sending.{wrapped, with_sent}

-- the packet is handed on with its older frames, the frame is remembered, and all else stays
pub record HandsOn {S : Type 0} (takes : S → MediaPacket → S → Type 0) (s : RedSink S) (p : MediaPacket) (t : RedSink S) : Type 0 where
  pub packet : takes s.sink.now (wrapped s.sender.now p s.limit) t.sink.now
  pub remembered : t.sender.now ≡ with_sent s.sender.now p.rtp_time.numer p.payload
  pub limit : t.limit ≡ s.limit
  pub same_sink : t.sink.ghost_name ≡ s.sink.ghost_name
  pub same_sender : t.sender.ghost_name ≡ s.sender.ghost_name
