-- What a datagram opens to, and what a session makes of it.
use Rattle.std.specs.Prelude.{◌≡◌, ◌==◌, ◌<◌, ◌&&◌, ◌||◌, ℕ, Bool, true, false, IsTrue, IsSome, is_some, unwrap_or, if◌then◌else◌, List, [], ◌++◌, length, take, drop, slice_index, option_and_then, Option, Some, None}
use Rattle.std.specs.Option.{option_map, option_map_or}
use Rattle.mapping_core.specs.Mapped.{is_early_padding}
use Rattle.rtp_base.specs.declared.kind.Kind.TheVariants.{Rtp}
use Rattle.rtp_base.specs.declared.media_time.MediaTime.{MediaTime}
use Rattle.rtp_wire.specs.declared.extension.ExtensionMap.{ExtensionMap}
use Rattle.rtp_wire.specs.declared.header.RtpHeader.{RtpHeader}
use Rattle.rtp_wire.specs.declared.header.TheConstants.{ORIGINAL_NUMBER_LEN}
use Rattle.rtp_wire.specs.Header.{header_of}
use Rattle.rtp_wire.specs.Padding.{unpadded}
use Rattle.srtp_core.specs.Cipher.{CipherMeaning}
use Rattle.srtp_core.specs.Contexts.{SrtpState}
use Rattle.srtp_core.specs.Seals.{OpensTo}
use Rattle.stream_core.specs.declared.packet.RtpPacket.{RtpPacket}
use Rattle.stream_core.specs.RxRecord.{RxRecord, fresh_number, opened_as}
use Rattle.stream_core.specs.Repairing.{claims_in}
use Rattle.stream_core.specs.Reporting.{clock_under}
use Rattle.stream_core.specs.StreamsRecord.{accepted, restored_on, restored_number_on, taken_time_on, restored_time_on}
use Rattle.stream_core.specs.Tables.{value_under, place_of, change_at}
use Rattle.stream_core.specs.declared.payload_types.TypeRow.{TypeRow}
use Rattle.stream_core.specs.declared.reports.Arrival.{Arrival}
use Rattle.session_core.specs.declared.datagram.Opened.{Opened}
use Rattle.stream_core.specs.Seen.{seen_of, saw}
use Rattle.stream_core.specs.RxRepairs.{repair_came, after_restored}
use Rattle.session_core.specs.Mapping.{rids_for, mapping_for, taken_up_for, is_nowhere, unseen_number}
use Rattle.session_core.specs.Repairs.{repaired_by, repair_accepted, restored_header}
use Rattle.rtp_wire.specs.Repairs.{original_number}
use Rattle.session_core.specs.SessionRecord.{SessionRecord}

-- on SSRC 0, under which probes come, all types are taken; on another the types that both ends know
abbrev pub is_claimed : List (ℕ × TypeRow) → RtpHeader → Bool
is_claimed types h = h.ssrc == 0 || is_some (place_of h.payload_type types)

-- the number under which a datagram of an SSRC with these low 16 bits may open
abbrev pub number_of : Option ℕ → List (ℕ × RxRecord) → RxRecord → ℕ → ℕ → Option ℕ
number_of remembered rx probes ssrc low = if ssrc == 0 then fresh_number remembered probes low else accepted remembered rx ssrc low

-- the incoming streams after a datagram opened
abbrev pub rx_opened : Option ℕ → Arrival → ℕ → ℕ → List (ℕ × RxRecord) → List (ℕ × RxRecord)
rx_opened remembered a ssrc n rx = if ssrc == 0 then rx else change_at ssrc (opened_as remembered a n) rx

abbrev pub probes_opened : Option ℕ → Arrival → ℕ → ℕ → RxRecord → RxRecord
probes_opened remembered a ssrc n probes = if ssrc == 0 then opened_as remembered a n probes else probes

-- how a packet of this header came at a moment with so many bytes of payload: the clock of a type that is not known has one
-- tick in a second; without payload behind it padding stands alone
abbrev pub arrival_of : List (ℕ × TypeRow) → ℕ → RtpHeader → ℕ → Arrival
arrival_of types now h bytes = record {
  now = now;
  rtp_time = h.timestamp;
  clock = unwrap_or (clock_under types h.payload_type) 1;
  payload_len = if h.has_padding && bytes == 0 then None else Some bytes;
}

-- where its padding bit is set, the payload ends in padding (RFC 3550 section 5.1)
abbrev pub Unpads : RtpHeader → List ℕ → Type 0
Unpads h payload = IsTrue h.has_padding → IsSome (unpadded payload)

-- the payload without its padding
abbrev pub cut : RtpHeader → List ℕ → List ℕ
cut h payload = if h.has_padding then unwrap_or (unpadded payload) payload else payload

-- the bytes open under this header and number to this payload, where there are keys
abbrev pub OpensIn : CipherMeaning → Option SrtpState → RtpHeader → ℕ → List ℕ → List ℕ → Type 0
OpensIn cipher None h n bytes payload = ⊥
OpensIn cipher (Some state) h n bytes payload = OpensTo cipher state.profile state.keys h.ssrc n h.header_len bytes payload

-- what a datagram carries, and where it is a repair what stands behind the number of the packet that it repairs
abbrev pub carried_in : Bool → RtpHeader → List ℕ → List ℕ
carried_in repair h payload = if repair then drop ORIGINAL_NUMBER_LEN (cut h payload) else cut h payload

abbrev pub original_in : Bool → RtpHeader → List ℕ → Option ℕ
original_in repair h payload = if repair then original_number (cut h payload) else None

-- the bytes open so to some payload: these are the plain datagram, the number in front of a repair, and what is carried
pub record IsOpening (cipher : CipherMeaning) (opening : Option SrtpState) (h : RtpHeader) (n : ℕ) (repair : Bool) (bytes plain : List ℕ) (original : Option ℕ) (carried : List ℕ) : Type 0 where
  pub payload : List ℕ
  pub opens : OpensIn cipher opening h n bytes payload
  pub unpads : Unpads h payload
  pub whole : plain ≡ take h.header_len bytes ++ payload
  pub number : original ≡ original_in repair h payload
  pub cuts : carried ≡ carried_in repair h payload

-- the RTP time of a packet that so comes under an SSRC, as its stream widens it: one that is taken as it came, and one that is
-- restored from a repair. Where there is no stream no packet is told
abbrev pub no_time : MediaTime
no_time = record { numer = 0; frequency = 1 }

abbrev pub time_taken : Arrival → List (ℕ × RxRecord) → ℕ → MediaTime
time_taken a rx ssrc = unwrap_or (taken_time_on a rx ssrc) no_time

abbrev pub time_restored : Arrival → List (ℕ × RxRecord) → ℕ → MediaTime
time_restored a rx ssrc = unwrap_or (restored_time_on a rx ssrc) no_time

-- the packet of a datagram that came, of this RTP time
abbrev pub packet_from : MediaTime → ℕ → RtpHeader → ℕ → List ℕ → RtpPacket
packet_from time now h n payload = record {
  seq_no = n;
  time = time;
  header = h;
  payload = payload;
  timestamp = Some now;
  nackable = false;
}

-- the packet that waits to be told after a datagram opened: on SSRC 0 the one before
abbrev pub packet_after : MediaTime → ℕ → RtpHeader → ℕ → List ℕ → Option RtpPacket → Option RtpPacket
packet_after time now h n payload before = if h.ssrc == 0 then before else Some (packet_from time now h n payload)

-- the session after a datagram opened
abbrev pub after_opened : ℕ → RtpHeader → ℕ → List ℕ → SessionRecord → SessionRecord
after_opened now h n payload r = record {
  state = record r.state {
    packet = packet_after (time_taken (arrival_of r.state.types now h (length (cut h payload))) r.rx h.ssrc) now h n (cut h payload) r.state.packet;
  };
  rx = rx_opened (seen_of h.ssrc r.seen) (arrival_of r.state.types now h (length (cut h payload))) h.ssrc n r.rx;
  known = r.known;
  probes = probes_opened (seen_of h.ssrc r.seen) (arrival_of r.state.types now h (length (cut h payload))) h.ssrc n r.probes;
  seen = saw h.ssrc n r.seen;
  repairs = r.repairs;
}

-- a repair of a stream opened at a moment: it counts under the SSRC under which it came, and the stream is not paused
abbrev pub after_repair : ℕ → RtpHeader → ℕ → ℕ → SessionRecord → SessionRecord
after_repair now h original n r = record r {
  rx = change_at original (repair_came (seen_of h.ssrc r.seen) now n) r.rx;
  seen = saw h.ssrc n r.seen;
}

-- the packet that waits to be told after one was restored, where its number is fresh
abbrev pub packet_restored : MediaTime → List (ℕ × TypeRow) → ℕ → RtpHeader → ℕ → List ℕ → Option ℕ → Option RtpPacket → Option RtpPacket
packet_restored time types now h original payload fresh before =
    option_map_or (λ n. Some (packet_from time now (restored_header types original n h) n payload)) fresh before

-- the number of a packet was restored for a stream: it counts under the stream's SSRC, and where it is fresh the packet is
-- taken and waits to be told
abbrev pub after_original : ℕ → RtpHeader → ℕ → ℕ → List ℕ → SessionRecord → SessionRecord
after_original now h original low payload r = record r {
  state = record r.state {
    packet = packet_restored (time_restored (arrival_of r.state.types now (restored_header r.state.types original low h) (length payload)) r.rx original)
        r.state.types now h original payload (restored_on (seen_of original r.seen) r.rx original low) r.state.packet;
  };
  rx = change_at original (after_restored (seen_of original r.seen) (arrival_of r.state.types now (restored_header r.state.types original low h) (length payload)) low) r.rx;
  seen = option_map_or (λ n. saw original n r.seen) (restored_number_on (seen_of original r.seen) r.rx original low) r.seen;
}

-- the session after both, where the repair carried so much
abbrev pub after_restoring : ℕ → RtpHeader → ℕ → Option ℕ → List ℕ → SessionRecord → SessionRecord
after_restoring now h original None payload r = r
after_restoring now h original (Some low) payload r = after_original now h original low payload r

abbrev pub after_repaired : ℕ → RtpHeader → ℕ → ℕ → List ℕ → SessionRecord → SessionRecord
after_repaired now h original n payload r =
    after_restoring now h original (original_number (cut h payload)) (drop ORIGINAL_NUMBER_LEN (cut h payload)) (after_repair now h original n r)

-- what a datagram opened to: its header's bytes, and its payload with its padding
abbrev pub opening_of : List ℕ → RtpHeader → ℕ → List ℕ → Opened
opening_of bytes h n payload = record { kind = Rtp; ssrc = h.ssrc; index = n; plain = take h.header_len bytes ++ payload }

module _ (cipher : CipherMeaning) (r : SessionRecord) (bytes : List ℕ) where
  -- the bytes open under this header and number to this payload
  pub record Opens (h : RtpHeader) (n : ℕ) (payload : List ℕ) : Type 0 where
    pub reads : header_of r.state.transport.exts bytes ≡ Some h
    pub original : repaired_by r.state.types r.rx r.known.originals h ≡ None
    pub claimed : is_claimed r.state.types h ≡ true
    pub accepts : number_of (seen_of h.ssrc r.seen) r.rx r.probes h.ssrc h.sequence_number ≡ Some n
    pub opens : OpensIn cipher r.state.opening h n bytes payload
    pub unpads : Unpads h payload

  -- the bytes open as a repair of a stream under this header and own number to this payload
  pub record OpensRepair (h : RtpHeader) (original n : ℕ) (payload : List ℕ) : Type 0 where
    pub reads : header_of r.state.transport.exts bytes ≡ Some h
    pub repairs : repaired_by r.state.types r.rx r.known.originals h ≡ Some original
    pub accepts : option_and_then (repair_accepted r.seen h) (value_under original r.rx) ≡ Some n
    pub opens : OpensIn cipher r.state.opening h n bytes payload
    pub unpads : Unpads h payload

  -- what bytes that come at a moment make of a session whose tables have their SSRC: they open to a packet or as a repair, or
  -- to nothing
  pub data Takes (now : ℕ) : SessionRecord → Option Opened → Type 0 where
    takes_packet : (h : RtpHeader) (n : ℕ) (payload : List ℕ) → Opens h n payload
        → Takes now (after_opened now h n payload r) (Some (opening_of bytes h n payload))
    takes_repair : (h : RtpHeader) (original n : ℕ) (payload : List ℕ) → OpensRepair h original n payload
        → Takes now (after_repaired now h original n payload r) (Some (opening_of bytes h n payload))
    takes_nothing : ((h : RtpHeader) (n : ℕ) (payload : List ℕ) → Opens h n payload → ⊥)
        → ((h : RtpHeader) (original n : ℕ) (payload : List ℕ) → OpensRepair h original n payload → ⊥) → Takes now r None

-- the number under which bytes of a header may open, and whether as a repair
abbrev pub as_repair : Option ℕ → Option (ℕ × Bool)
as_repair n = option_map (λ m. (m, true)) n

abbrev pub as_packet : Bool → Option ℕ → Option (ℕ × Bool)
as_packet claimed n = if claimed then option_map (λ m. (m, false)) n else None

abbrev pub number_by : RtpHeader → SessionRecord → Option ℕ → Option (ℕ × Bool)
number_by h r None = as_packet (is_claimed r.state.types h) (number_of (seen_of h.ssrc r.seen) r.rx r.probes h.ssrc h.sequence_number)
number_by h r (Some original) = as_repair (option_and_then (repair_accepted r.seen h) (value_under original r.rx))

abbrev pub opening_number : RtpHeader → SessionRecord → Option (ℕ × Bool)
opening_number h r = number_by h r (repaired_by r.state.types r.rx r.known.originals h)

module _ (cipher : CipherMeaning) (r : SessionRecord) (bytes : List ℕ) where
  -- the bytes open under this header and number as padding of a stream that is not known yet: nothing is left of their payload
  -- without it
  pub record OpensPadding (h : RtpHeader) (n : ℕ) (payload : List ℕ) : Type 0 where
    pub reads : header_of r.state.transport.exts bytes ≡ Some h
    pub unknown : is_nowhere (mapping_for h r) ≡ true
    pub early : is_early_padding (rids_for h r.state.medias) (claims_in r.state.types) h ≡ true
    pub accepts : unseen_number r.seen h ≡ Some n
    pub opens : OpensIn cipher r.state.opening h n bytes payload
    pub unpads : Unpads h payload
    pub empty : cut h payload ≡ []

  -- what bytes that come at a moment make of a session. They open to a packet or as a repair of the session in which it is taken
  -- up of which stream they are, or as padding, or to nothing; and it is taken up only where they open
  pub data Receives (now : ℕ) : SessionRecord → Option Opened → Type 0 where
    opened : (h : RtpHeader) (n : ℕ) (payload : List ℕ) → Opens cipher (taken_up_for h r) bytes h n payload
        → Receives now (after_opened now h n payload (taken_up_for h r)) (Some (opening_of bytes h n payload))
    repaired : (h : RtpHeader) (original n : ℕ) (payload : List ℕ) → OpensRepair cipher (taken_up_for h r) bytes h original n payload
        → Receives now (after_repaired now h original n payload (taken_up_for h r)) (Some (opening_of bytes h n payload))
    padding : (h : RtpHeader) (n : ℕ) (payload : List ℕ) → OpensPadding h n payload
        → Receives now (record r { seen = saw h.ssrc n r.seen }) (Some (opening_of bytes h n payload))
    stays : ((h : RtpHeader) (n : ℕ) (payload : List ℕ) → Opens cipher (taken_up_for h r) bytes h n payload → ⊥)
        → ((h : RtpHeader) (original n : ℕ) (payload : List ℕ) → OpensRepair cipher (taken_up_for h r) bytes h original n payload → ⊥)
        → ((h : RtpHeader) (n : ℕ) (payload : List ℕ) → OpensPadding h n payload → ⊥) → Receives now r None

-- the number that the header of a datagram states has 16 bits
abbrev pub HeaderNumbersFit : Type 0
HeaderNumbersFit = (exts : ExtensionMap) (bytes : List ℕ) (h : RtpHeader) → ((i : ℕ) → slice_index bytes i < 256) → header_of exts bytes ≡ Some h → h.sequence_number < 65536
