-- What a stream sends again (RFC 4588), and what a poll of it gives.
use Rattle.std.specs.Prelude.{◌≡◌, ℕ, ◌%◌, ◌<◌, ◌==◌, not, Bool, false, if◌then◌else◌, Option, Some, None, option_and_then, List, [], ◌∷◌, ◌++◌, length, slice_index_or, map}
use Rattle.std.specs.Int.{w16, to_be_bytes}
use Rattle.std.specs.Option.{option_map}
use Rattle.mapping_core.specs.declared.claim.TypeClaim.{TypeClaim}
use Rattle.resend_core.specs.ResendStore.{Past}
use Rattle.resend_core.specs.declared.rtx_cache.RtxCache.{RtxCache}
use Rattle.rtp_base.specs.declared.number.TheConstants.{NUMBER_LIMIT}
use Rattle.rtp_wire.specs.declared.header.RtpHeader.{RtpHeader}
use Rattle.rtp_wire.specs.declared.values.ExtensionValues.{ExtensionValues}
use Rattle.rtp_wire.specs.Header.{header_bytes}
use Rattle.rtx_core.specs.Resends.{ResendState, ResendView, ResendRecord, StandsFor, Caches, after_first, after_next, IsNext}
use Rattle.stream_core.specs.declared.packet.RtpPacket.{RtpPacket}
use Rattle.stream_core.specs.declared.payload_types.TypeRow.{TypeRow}
use Rattle.stream_core.specs.declared.stream_tx.PacketReceipt.{PacketReceipt}
use Rattle.stream_core.specs.declared.transport.Transport.{Transport}
use Rattle.stream_core.specs.Queue.{next_of}
use Rattle.stream_core.specs.Sealing.{with_sealing, with_values}
use Rattle.stream_core.specs.Tables.{place_of, value_under, change_at}
use Rattle.stream_core.specs.TxRecord.{TxRecord, receipt_of, polled, after_poll, after_resend}

-- a packet that was sent and may be sent again, and the payload type of its repairs
pub record SentPacket : Type 0 where
  pub packet : RtpPacket
  pub rtx_type : ℕ

abbrev pub number_of_sent : SentPacket → ℕ
number_of_sent s = s.packet.seq_no

abbrev pub size_of_sent : SentPacket → ℕ
size_of_sent s = length s.packet.payload

-- what a stream sends again as its callers see it, and the record of that
abbrev pub RepairsView : Type 0 → Type 0
RepairsView S = ResendView (RtxCache SentPacket S)

abbrev pub RepairsRecord : Type 0
RepairsRecord = ResendRecord SentPacket

abbrev pub RepairsStandFor : {S : Type 0} → (S → Past SentPacket → Type 0) → RepairsView S → RepairsRecord → Type 0
RepairsStandFor stands_for q r = StandsFor stands_for size_of_sent q r

-- the type of the repairs of packets of a type
abbrev pub rtx_type_of : List (ℕ × TypeRow) → ℕ → Option ℕ
rtx_type_of types pt = option_and_then (λ row. row.rtx) (value_under pt types)

abbrev pub is_type : ℕ → Option ℕ → Bool
is_type pt None = false
is_type pt (Some t) = t == pt

-- the first type whose packets have repairs of a type
abbrev pub primary_type_of : List (ℕ × TypeRow) → ℕ → Option ℕ
primary_type_of [] pt = None
primary_type_of (e ∷ es) pt = if is_type pt e.1.rtx then Some e.1.pt else primary_type_of es pt

-- under each type the first one whose packets have repairs of it
abbrev pub ArePrimaries : List (Option ℕ) → List (ℕ × TypeRow) → Type 0
ArePrimaries primaries types = (pt : ℕ) → pt < 256 → slice_index_or primaries pt None ≡ primary_type_of types pt

-- under each type the place where its row stands
abbrev pub ArePlaces : List (Option ℕ) → List (ℕ × TypeRow) → Type 0
ArePlaces places types = (pt : ℕ) → pt < 256 → slice_index_or places pt None ≡ place_of pt types

-- a row as a claim of its types, and the rows, in their order
abbrev pub claim_in : TypeRow → TypeClaim
claim_in row = record { pt = row.pt; rtx = row.rtx; red = row.red }

abbrev pub claims_in : List (ℕ × TypeRow) → List TypeClaim
claims_in types = map (λ e. claim_in e.1) types

-- the type of the repairs of a packet: none where the packet is not kept to be sent again
abbrev pub kept_as : List (ℕ × TypeRow) → RtpPacket → Option ℕ
kept_as types p = if p.nackable then rtx_type_of types p.header.payload_type else None

-- the values that a repair has: those of its packet, with the mid of its stream, the rid as the one that it repairs and
-- no rid, and what is told of its own sealing
abbrev pub repair_values : Transport → ℕ → List ℕ → Option (List ℕ) → ExtensionValues → ExtensionValues
repair_values t now mid rid values = with_sealing t now (record values { mid = Some mid; rid = None; rid_repair = rid })

-- its header: that of its packet, with the SSRC, the number and the type of repairs
abbrev pub repair_header : ℕ → TxRecord → Transport → ℕ → ℕ → SentPacket → RtpHeader
repair_header ssrc x t now n p = with_values t
    (record p.packet.header { payload_type = p.rtx_type; sequence_number = n % 65536; ssrc = ssrc })
    (repair_values t now x.mid x.rid p.packet.header.ext_vals)

-- what there is to seal for it: in front of the packet's payload stand the low 16 bits of the packet's number (RFC 4588
-- section 4)
abbrev pub repair_of : ℕ → TxRecord → Transport → ℕ → ℕ → SentPacket → PacketReceipt
repair_of ssrc x t now n p = record {
  header = repair_header ssrc x t now n p;
  seq_no = n;
  plain = header_bytes t.exts (repair_header ssrc x t now n p) ++ (to_be_bytes w16 (p.packet.seq_no % 65536) ++ p.packet.payload);
}

-- the packet that is to be sent again next, as a repair under the next number; where there is none, nothing is asked for
-- any more
pub data Repairs (t : Transport) (now ssrc : ℕ) (x : TxRecord) (q : RepairsRecord) : RepairsRecord → Option PacketReceipt → Type 0 where
  repaired : (p : SentPacket) (rest : List _) → IsNext now q (Some (p, rest)) → q.state.next_seq_no < NUMBER_LIMIT
      → Repairs t now ssrc x q (record q { state = after_next now size_of_sent (Some (p, rest)) q.state }) (Some (repair_of ssrc x t now q.state.next_seq_no p))
  none_asked : IsNext now q None → Repairs t now ssrc x q (record q { state = after_next now size_of_sent None q.state }) None

-- a packet is sent for the first time: it is kept, or counted
pub data Keeps (types : List (ℕ × TypeRow)) (now : ℕ) (p : RtpPacket) (q : RepairsRecord) : RepairsRecord → Type 0 where
  kept : (rtx_type : ℕ) (after : RepairsRecord) → kept_as types p ≡ Some rtx_type
      → Caches size_of_sent number_of_sent now (record { packet = p; rtx_type = rtx_type }) q after → Keeps types now p q after
  counted : kept_as types p ≡ None → Keeps types now p q (record q { state = after_first now (length p.payload) q.state })

-- what a stream gives at a moment, and what it and its repairs are then: repairs go first
pub data Polls (types : List (ℕ × TypeRow)) (t : Transport) (now : ℕ) (x : TxRecord) : Option RepairsRecord → TxRecord → Option RepairsRecord → Option PacketReceipt → Type 0 where
  without : Polls types t now x None (after_poll x) None (polled x t now)
  again : (ssrc : ℕ) (q after : RepairsRecord) (receipt : PacketReceipt) → x.rtx ≡ Some ssrc → Repairs t now ssrc x q after (Some receipt)
      → Polls types t now x (Some q) (after_resend receipt x) (Some after) (Some receipt)
  first : (ssrc : ℕ) (q between after : RepairsRecord) (p : RtpPacket) → x.rtx ≡ Some ssrc → Repairs t now ssrc x q between None → next_of x.queue ≡ Some p
      → Keeps types now p between after → Polls types t now x (Some q) (after_poll x) (Some after) (Some (receipt_of x t now p))
  nothing : (ssrc : ℕ) (q after : RepairsRecord) → x.rtx ≡ Some ssrc → Repairs t now ssrc x q after None → next_of x.queue ≡ None
      → Polls types t now x (Some q) x (Some after) None

-- want of memory leaves a stream as it was, and its repairs too, or nothing is asked for any more
pub data Stays (now : ℕ) : Option RepairsRecord → Option RepairsRecord → Type 0 where
  same : (q : Option RepairsRecord) → Stays now q q
  none_left : (q : RepairsRecord) → IsNext now q None → Stays now (Some q) (Some (record q { state = after_next now size_of_sent None q.state }))

-- a packet is to be sent again, and no number is left for it
abbrev pub IsUsedUp : ℕ → RepairsRecord → Type 0
IsUsedUp now q = (p : SentPacket) × (rest : List _) × IsNext now q (Some (p, rest)) × (q.state.next_seq_no ≡ NUMBER_LIMIT)

-- some packet is asked for
abbrev pub has_asked : Option ResendState → Bool
has_asked None = false
has_asked (Some s) = not (length s.resends == 0)

abbrev pub state_in : {C : Type 0} → Option (ResendView C) → Option ResendState
state_in q = option_map (λ v. v.state) q

-- the repairs of a stream, among those of all streams, each under the SSRC of its stream
abbrev pub repairs_of : {X : Type 0} → TxRecord → List (ℕ × X) → Option X
repairs_of x qs = option_and_then (λ rtx. value_under x.ssrc qs) x.rtx

abbrev pub with_repairs : {X : Type 0} → ℕ → Option X → List (ℕ × X) → List (ℕ × X)
with_repairs ssrc None qs = qs
with_repairs ssrc (Some q) qs = change_at ssrc (λ old. q) qs
