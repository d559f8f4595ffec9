-- What streams give where a peer asked for packets.
use Rattle.std.specs.Prelude.{◌≡◌, ℕ, List, Option, Some, None}
use Rattle.rtp_base.specs.declared.nack_entry.NackEntry.{NackEntry}
use Rattle.rtx_core.specs.Resends.{recached}
use Rattle.stream_core.specs.declared.payload_types.TypeRow.{TypeRow}
use Rattle.stream_core.specs.declared.stream_tx.PacketReceipt.{PacketReceipt}
use Rattle.stream_core.specs.declared.transport.Transport.{Transport}
use Rattle.stream_core.specs.Repairing.{RepairsRecord}
use Rattle.stream_core.specs.StreamsRecord.{StreamsRecord, with_stream_tx, Asked, PollsAt}
use Rattle.stream_core.specs.Tables.{place_of, change_at}

-- the stream of an SSRC keeps 100 packets of the last 3 s, and any part of what it sends may be repairs
abbrev pub keeping : ℕ → StreamsRecord → StreamsRecord
keeping ssrc r = record r { repairs = change_at ssrc (recached 100 3000000000 None) r.repairs }

-- streams, and one more that does, with repairs under another SSRC
abbrev pub with_kept : ℕ → ℕ → List ℕ → Option (List ℕ) → StreamsRecord → StreamsRecord
with_kept ssrc rtx mid rid r = keeping ssrc (with_stream_tx ssrc (Some (rtx, 1)) mid rid r)

-- the stream of an SSRC is asked for packets, and polled then
pub data SendsAgain (types : List (ℕ × TypeRow)) (t : Transport) (now ssrc : ℕ) (entries : List NackEntry) (r : StreamsRecord) : StreamsRecord → Option PacketReceipt → Type 0 where
  unknown : place_of ssrc r.tx ≡ None → SendsAgain types t now ssrc entries r r None
  asked_then_polled : (place : ℕ) (repairs : List (ℕ × RepairsRecord)) (after : StreamsRecord) (o : Option PacketReceipt) → place_of ssrc r.tx ≡ Some place
      → Asked now ssrc entries r.repairs repairs → PollsAt types t now place (record r { repairs = repairs }) after o
      → SendsAgain types t now ssrc entries r after o
