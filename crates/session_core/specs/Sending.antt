-- What a session sends.
use Rattle.std.specs.Prelude.{◌≡◌, ◌≤◌, ◌==◌, ◌&&◌, ◌||◌, ℕ, ◌+◌, Bool, true, false, is_some, is_none, if◌then◌else◌, List, [], ◌∷◌, ◌++◌, length, take, Option, Some, None}
use Rattle.std.specs.List.{list_any, AllByRecursion}
use Rattle.std.specs.Option.{option_map}
use Rattle.std.specs.Cmp.Lexicographic.{pointwise}
use Rattle.rtp_base.specs.declared.kind.Kind.TheVariants.{Rtp}
use Rattle.srtp_core.specs.Cipher.{CipherMeaning}
use Rattle.srtp_core.specs.Contexts.{SrtpState}
use Rattle.srtp_core.specs.Seals.{sealed_rtp}
use Rattle.srtp_core.specs.declared.context.TheConstants.{SRTCP_INDEX_LIMIT}
use Rattle.stream_core.specs.declared.stream_tx.PacketReceipt.{PacketReceipt}
use Rattle.stream_core.specs.Pauses.{first_where}
use Rattle.stream_core.specs.Queue.{next_of}
use Rattle.stream_core.specs.Sealing.{after_packet}
use Rattle.stream_core.specs.StreamsRecord.{StreamsRecord, is_asked, PollsAt, all_waiting, all_asked}
use Rattle.stream_core.specs.TxRecord.{TxRecord}
use Rattle.rtx_core.specs.Resends.{ResendView}
use Rattle.rtcp_wire.specs.declared.packet.Rtcp.{Rtcp}
use Rattle.session_core.specs.declared.config.TheConstants.{LEAST_TARGET}
use Rattle.session_core.specs.declared.datagram.Datagram.{Datagram}
use Rattle.session_core.specs.Feedback.{FitsAlone, compound_of, sealed_compound, due_of, some_due, exhausts, after_compound}
use Rattle.session_core.specs.SessionRecord.{MediaRecord, SessionState, SessionView, SessionRecord, streams_in}

-- some media section has this mid
abbrev pub has_mid : List ℕ → List MediaRecord → Bool
has_mid mid medias = list_any (λ m. pointwise ◌==◌ m.mid mid) medias

-- the stream has a packet to be sealed, or one that is asked for and may leave, and its mid is a media section's
abbrev pub is_due : {C : Type 0} → List MediaRecord → Bool → List (ℕ × ResendView C) → TxRecord → Bool
is_due medias released repairs x = has_mid x.mid medias && (is_some (next_of x.queue) || (released && is_asked repairs x))

-- the place of the first stream that is due
abbrev pub first_due : {C : Type 0} → List MediaRecord → Bool → List (ℕ × ResendView C) → List (ℕ × TxRecord) → Option ℕ
first_due medias released repairs es = first_where (is_due medias released repairs) es

-- no stream before a place is due
abbrev pub PollsFrom : {C : Type 0} → ℕ → List MediaRecord → Bool → List (ℕ × ResendView C) → List (ℕ × TxRecord) → Type 0
PollsFrom place medias released repairs es = first_due medias released repairs (take place es) ≡ None

-- what a session keeps true: where its polling stands, the bounds of its target and of its first index, and that each item
-- that waits fits a compound of its own
pub record KeepsOrder {C : Type 0} (place target first_index : ℕ) (medias : List MediaRecord) (released : Bool) (repairs : List (ℕ × ResendView C)) (es : List (ℕ × TxRecord)) (feedback : List Rtcp) : Type 0 where
  pub polls : PollsFrom place medias released repairs es
  pub wide : LEAST_TARGET ≤ target
  pub left : first_index ≤ SRTCP_INDEX_LIMIT
  pub fit : AllByRecursion FitsAlone feedback

-- nothing leaves at moment 0 and without keys
abbrev pub is_silent : ℕ → SessionState → Bool
is_silent now s = now == 0 || is_none s.sealing

-- the place of the stream whose packet leaves next
abbrev pub next_place : SessionRecord → Option ℕ
next_place r = first_due r.state.medias r.state.released r.repairs r.state.tx

-- what a stream gives as a datagram
abbrev pub sealed_as : CipherMeaning → SrtpState → PacketReceipt → Datagram
sealed_as cipher state p = record {
  kind = Rtp;
  ssrc = p.header.ssrc;
  index = p.seq_no;
  plain = p.plain;
  bytes = sealed_rtp cipher state.profile state.keys p.header.ssrc p.seq_no p.header.header_len p.plain;
}

abbrev pub sealed_by : CipherMeaning → Option SrtpState → Option PacketReceipt → Option Datagram
sealed_by cipher None p = None
sealed_by cipher (Some state) p = option_map (sealed_as cipher state) p

-- the session after a stream gave something, or nothing
abbrev pub after_streams : SessionRecord → StreamsRecord → Option PacketReceipt → SessionRecord
after_streams r s o = record r {
  state = record r.state { tx = s.tx; transport = if is_some o then after_packet r.state.transport else r.state.transport };
  repairs = s.repairs;
}

-- what the stream at a place gives at a moment
abbrev pub Gives : ℕ → SessionRecord → ℕ → StreamsRecord → Option PacketReceipt → Type 0
Gives now r place s o = PollsAt r.state.types r.state.transport now place (streams_in r) s o

-- no packet leaves: those that are asked for later wait for a tick
abbrev pub unreleased : SessionRecord → SessionRecord
unreleased r = record r { state = record r.state { released = false } }

-- the packet that leaves next, of the first stream that is due: one that gives nothing, since what was asked for is not kept
-- any more or the cap is met, is passed over
pub data NextPacket (now : ℕ) : SessionRecord → SessionRecord → Option PacketReceipt → Type 0 where
  none_due : (r : SessionRecord) → next_place r ≡ None → NextPacket now r (unreleased r) None
  given : (r : SessionRecord) (place : ℕ) (s : StreamsRecord) (p : PacketReceipt) → next_place r ≡ Some place → Gives now r place s (Some p)
      → NextPacket now r (after_streams r s (Some p)) (Some p)
  passed : (r after : SessionRecord) (place : ℕ) (s : StreamsRecord) (o : Option PacketReceipt) → next_place r ≡ Some place → Gives now r place s None
      → NextPacket now (after_streams r s None) after o → NextPacket now r after o

-- what leaves next as a datagram, and the session after it: nothing at moment 0; the compound of feedback, where some is due,
-- before packets; without keys no packet, and a compound is lost
pub data NextDatagram (cipher : CipherMeaning) (now : ℕ) (r : SessionRecord) : SessionRecord → Option Datagram → Type 0 where
  silent : is_silent now r.state ≡ true → due_of now r.state ≡ [] → NextDatagram cipher now r r None
  packet : (after : SessionRecord) (o : Option PacketReceipt) → is_silent now r.state ≡ false → due_of now r.state ≡ [] → NextPacket now r after o
      → NextDatagram cipher now r after (sealed_by cipher r.state.sealing o)
  compound : some_due (due_of now r.state) ≡ true → exhausts now r.state ≡ false
      → NextDatagram cipher now r (record r { state = after_compound r.state })
      (option_map (sealed_compound cipher (compound_of r.state.target r.state.feedback)) r.state.sealing)

-- how many items and packets wait, and how many packets are asked for
abbrev pub waiting_in : {W S : Type 0} → SessionView W S → ℕ
waiting_in s = length s.state.feedback + (all_waiting s.state.tx + all_asked s.repairs)

-- polls that gave these datagrams, in order
pub data DrainsTo (cipher : CipherMeaning) (now : ℕ) (r : SessionRecord) : SessionRecord → List Datagram → Type 0 where
  start : DrainsTo cipher now r r []
  more : (between after : SessionRecord) (done : List Datagram) (d : Datagram) → DrainsTo cipher now r between done
      → NextDatagram cipher now between after (Some d) → DrainsTo cipher now r after (done ++ d ∷ [])

-- polls that gave these, and one that gave none
pub record Drains (cipher : CipherMeaning) (now : ℕ) (r after : SessionRecord) (all : List Datagram) : Type 0 where
  pub last : SessionRecord
  pub sent : DrainsTo cipher now r last all
  pub ended : NextDatagram cipher now last after None
