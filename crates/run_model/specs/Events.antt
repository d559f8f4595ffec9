-- What happens on one side of a run, in order, as it is read.
use Rattle.std.specs.Prelude.{ℕ, Bool, List, Option}
use Rattle.rtp_base.specs.declared.kind.Kind.{Kind}
use Rattle.rtcp_wire.specs.declared.rtcp_fb.RtcpFb.{RtcpFb}
use Rattle.media_model.specs.declared.entry.Packet.{Packet}
use Rattle.media_model.specs.declared.entry.Write.{Write}

-- a plain RTP datagram as it is read, but for its SSRC and its number; the payload is what stands behind the header, with the
-- padding
pub record Plain : Type 0 where
  pub pt : ℕ
  pub padded : Bool
  pub marker : Bool
  pub time : ℕ
  pub csrc : List ℕ
  pub payload : List ℕ

-- a write, a tick and a call of the application, and what came, each at a moment; what was sealed and opened of RTP, under an
-- SSRC and a number, and of RTCP, under an index; what was yielded
pub data Event : Type 0 where
  wrote : (time : ℕ) (write : Write) → Event
  ticked : (time : ℕ) → Event
  called : (time : ℕ) → Event
  got : (time : ℕ) (kind : Kind) (bytes : List ℕ) → Event
  sealed : (ssrc number : ℕ) (plain : Plain) (bytes : List ℕ) → Event
  sealed_items : (index : ℕ) (items : List RtcpFb) → Event
  opened : (ssrc number : ℕ) (plain : Plain) → Event
  opened_items : (index : ℕ) (items : List RtcpFb) → Event
  yielded : Packet → Event

-- the packet that a write is
abbrev pub as_packet : Write → Packet
as_packet w = record { ssrc = w.ssrc; number = w.number; pt = w.pt; rtp_time = w.rtp_time; marker = w.marker; csrc = w.csrc; payload = w.payload }

-- the payload types: which are claimed by a line, the primary type of the line that claims one, which are RTX types, and the RTX
-- type of a primary type
pub record Types : Type 0 where
  pub claims : ℕ → Bool
  pub primary_of : ℕ → ℕ
  pub is_rtx : ℕ → Bool
  pub rtx_of : ℕ → Option ℕ

-- an outgoing stream as the setup has it: its SSRCs, the number of its first repair, for how many packets and how long sent
-- packets are kept, and the cap of repairs, in hundredths
pub record Outgoing : Type 0 where
  pub ssrc : ℕ
  pub rtx : Option ℕ
  pub start : ℕ
  pub packets : ℕ
  pub age : ℕ
  pub cap : Option ℕ

-- an incoming stream
pub record Incoming : Type 0 where
  pub ssrc : ℕ
  pub rtx : Option ℕ
  pub suppressed : Bool
