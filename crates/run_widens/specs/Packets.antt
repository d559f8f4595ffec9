-- An RTP datagram as its header reads, with what stands behind the header.
use Rattle.std.specs.Prelude.{◌≡◌, ℕ, ◌++◌, take, List, Some}
use Rattle.run_model.specs.Events.{Plain}
use Rattle.run_model.specs.Receiving.{cut}
use Rattle.rtp_wire.specs.Repairs.{original_number}
use Rattle.run_model.specs.Sending.{two_bytes}
use Rattle.run_widens.specs.declared.packet.Packet.{Packet}

abbrev pub plain_of : Packet → Plain
plain_of packet = record {
  pt = packet.pt;
  padded = packet.padded;
  marker = packet.marker;
  time = packet.time;
  csrc = take packet.csrc_count packet.csrc;
  payload = packet.payload.now;
}

-- the low 16 bits of the number that a repair restores, and what stands behind them
pub record Repairs (packet : Packet) (number : ℕ) (rest : List ℕ) : Type 0 where
  pub low : original_number (cut (plain_of packet)) ≡ Some number
  pub split : cut (plain_of packet) ≡ two_bytes number ++ rest
