-- What a session sends and opens, as entries: how they are read, and that they are right.
use Rattle.std.proofs.Common.{◌≡◌, ℕ, ◌≤◌, true, List, [], ◌∷◌, ◌++◌, map, take, drop, length, Option, Some, None, refl, sym, ap, ◌∙◌, subst}
use Rattle.std.specs.List.{AllByRecursion}
use Rattle.std.specs.Option.{option_map}
use Rattle.rtp_base.specs.declared.kind.Kind.{Kind}
use Rattle.rtp_base.specs.declared.kind.Kind.TheVariants.{Rtp, Rtcp}
use Rattle.rtp_wire.specs.declared.extension.ExtensionMap.{ExtensionMap}
use Rattle.rtp_wire.specs.Header.{header_of, header_bytes, wire_form}
use Rattle.srtp_core.specs.Cipher.{CipherMeaning}
use Rattle.srtp_core.specs.Seals.{sealed_rtp}
use Rattle.srtp_core.specs.RtcpSeals.{sender_of}
use Rattle.stream_core.specs.declared.packet.RtpPacket.{RtpPacket}
use Rattle.session_core.specs.declared.datagram.Datagram.{Datagram}
use Rattle.session_core.specs.declared.datagram.Opened.{Opened as Opening}
use Rattle.session_core.specs.SessionRecord.{SessionRecord}
use Rattle.session_turns.specs.Mirrors.{Mirrors}
use Rattle.session_turns.specs.Reading.{event_as, event_of, events_of, opening_as, yields_of, events_opened, len_in, packet_told}
use Rattle.session_turns.specs.Rights.{IsRight as IsRightHere, right_rtp as rtp_here, right_rtcp as rtcp_here, IsCallRight, IsRightOpening, IsRightRtcpOpening}
use Rattle.rtcp_wire.specs.declared.feedback.AppSpecificFeedback.{AppSpecificFeedback as Application}
use Rattle.rtcp_wire.specs.declared.packet.Rtcp.TheVariants.{AppSpecificFeedback}
use Rattle.rtcp_wire.specs.Texts.{text_of}
use Rattle.media_model.specs.declared.entry.Side.{Side}
use Rattle.media_model.specs.declared.entry.Packet.{Packet}
use Rattle.media_model.specs.declared.entry.Got.{Got as GotEntry}
use Rattle.media_model.specs.declared.entry.Opened.{Opened as OpenedEntry}
use Rattle.media_model.specs.declared.entry.Entry.{Entry}
use Rattle.media_model.specs.declared.entry.Entry.TheVariants.{Ticked, Got, Sealed}
use Rattle.media_model.specs.declared.setup.Setup.{Setup}
use Rattle.media_model.specs.Entries.{writes_on}
use Rattle.media_model.specs.Sides.{peer_of}
use Rattle.run_model.specs.Events.{Event, ticked, got, called}
use Rattle.run_model.specs.Runs.{Happening, on_side}
use Rattle.run_model.specs.Seals.{Sealing as SideSealing, Reporting}
use Rattle.run_model.specs.Transcripts.{sealed_event, opened_event, happening_of, happenings, outgoing_of}
use Rattle.run_model.specs.Whole.{Session}
use Rattle.media_laws.specs.Config.{config_of}
use Rattle.media_laws.specs.Feedback.{next_index, IsSealOfPacket}
use Rattle.media_laws.specs.Keys.{sealing_of}
use Rattle.media_laws.specs.Opening.{Sealing, got_as, rtp_opening, rtcp_opening}
use Rattle.media_laws.specs.Plain.{extensions_of}
use Rattle.media_laws.specs.Play.{IsBroughtBy}
use Rattle.media_laws.specs.Right.{IsRight, right_rtp, right_rtcp, IsRightSeal}
use Rattle.media_play.specs.declared.end.Received.{Received}
use Rattle.media_play.specs.Packets.{sealed_from, seals_from}
use Rattle.media_play.specs.Sessions.{yielded, received_entries}

-- how entries are read

kind_read : (exts : ExtensionMap) (side : Side) (d : Datagram) (k : Kind) → sealed_event exts k (sealed_from side d) ≡ event_as exts k d
kind_read exts side d Rtp = refl
kind_read exts side d Rtcp = refl

pub seal_read : (exts : ExtensionMap) (side : Side) (d : Datagram) → ◌≡◌ {A = Happening} (happening_of exts (Sealed (sealed_from side d))) (side, event_of exts d)
seal_read exts side d = ap {A = Event} {B = Happening} (λ (e : Event). (side, e)) (kind_read exts side d d.kind)

pub seals_read : (exts : ExtensionMap) (side : Side) (ds : List Datagram) → map (happening_of exts) (seals_from side ds) ≡ on_side side (events_of exts ds)
seals_read exts side [] = refl
seals_read exts side (d ∷ ds) = λ i. seal_read exts side d i ∷ seals_read exts side ds i

pub sent_read : (setup : Setup) (exts : ExtensionMap) (side : Side) (ds : List Datagram) → exts ≡ extensions_of setup
    → happenings setup (seals_from side ds) ≡ on_side side (events_of exts ds)
sent_read setup exts side ds e =
    subst (λ (x : ExtensionMap). ◌≡◌ {A = List Happening} (map (happening_of x) (seals_from side ds)) (on_side side (events_of exts ds))) e (seals_read exts side ds)

pub tick_read : (setup : Setup) (exts : ExtensionMap) (side : Side) (time : ℕ) (ds : List Datagram) → exts ≡ extensions_of setup
    → happenings setup (Ticked side time ∷ seals_from side ds) ≡ on_side side (ticked time ∷ events_of exts ds)
tick_read setup exts side time ds e =
    ap {A = List Happening} {B = List Happening} (λ (hs : List Happening). (side, ticked time) ∷ hs) (sent_read setup exts side ds e)

pub call_read : (setup : Setup) (exts : ExtensionMap) (side : Side) (time : ℕ) (d : Datagram) (c : Entry) → exts ≡ extensions_of setup
    → ((x : ExtensionMap) → ◌≡◌ {A = Happening} (happening_of x c) (side, called time))
    → happenings setup (c ∷ Sealed (sealed_from side d) ∷ []) ≡ on_side side (called time ∷ event_of exts d ∷ [])
call_read setup exts side time d c e is =
    subst (λ (x : ExtensionMap). ◌≡◌ {A = List Happening} (map (happening_of x) (c ∷ Sealed (sealed_from side d) ∷ [])) (on_side side (called time ∷ event_of exts d ∷ []))) e
    (λ i. is exts i ∷ seal_read exts side d i ∷ [])

pub no_writes_sealed : (s side : Side) (r : ℕ) (ds : List Datagram) → writes_on s r (seals_from side ds) ≡ []
no_writes_sealed s side r [] = refl
no_writes_sealed s side r (d ∷ ds) = no_writes_sealed s side r ds

-- what a datagram brings that came

abbrev pub received_of : Opening → Kind → Option RtpPacket → Received
received_of o kind packet = record { kind = kind; ssrc = o.ssrc; number = o.index; plain = o.plain; packet = option_map packet_told packet }

abbrev pub opened_of : Side → Kind → Opening → OpenedEntry
opened_of side kind o = record { side = side; kind = kind; ssrc = o.ssrc; index = o.index; plain = o.plain }

open_read : (exts : ExtensionMap) (side : Side) (o : Opening) (k : Kind) → opened_event exts k (opened_of side k o) ≡ opening_as exts k o
open_read exts side o Rtp = refl
open_read exts side o Rtcp = refl

yields_read : (exts : ExtensionMap) (side : Side) (packet : Option RtpPacket)
    → ◌≡◌ {A = List Happening} (map (happening_of exts) (yielded side (option_map packet_told packet))) (on_side side (yields_of packet))
yields_read exts side None = refl
yields_read exts side (Some p) = refl

pub opened_read : (setup : Setup) (exts : ExtensionMap) (side : Side) (time : ℕ) (kind : Kind) (bytes : List ℕ) (o : Opening) (packet : Option RtpPacket) → exts ≡ extensions_of setup → o.kind ≡ kind
    → happenings setup (Got (got_as side time kind bytes) ∷ received_entries side (Some (received_of o kind packet)))
    ≡ on_side side (got time kind bytes ∷ events_opened exts (Some o) packet)
opened_read setup exts side time kind bytes o packet e is =
    subst (λ (x : ExtensionMap). ◌≡◌ {A = List Happening} (map (happening_of x) (Got (got_as side time kind bytes) ∷ received_entries side (Some (received_of o kind packet)))) (on_side side (got time kind bytes ∷ events_opened exts (Some o) packet))) e
    (λ i. (side, got time kind bytes) ∷ (side, (open_read exts side o kind ∙ ap (λ (k : Kind). opening_as exts k o) (sym is)) i) ∷ yields_read exts side packet i)

pub no_writes_yielded : (s side : Side) (r : ℕ) (p : Option Packet) → writes_on s r (yielded side p) ≡ []
no_writes_yielded s side r None = refl
no_writes_yielded s side r (Some p) = refl

pub no_writes_received : (s side : Side) (r : ℕ) (received : Option Received) → writes_on s r (received_entries side received) ≡ []
no_writes_received s side r None = refl
no_writes_received s side r (Some x) = no_writes_yielded s side r x.packet

-- that they are right

module _ {cipher : CipherMeaning} {setup : Setup} {side : Side} {r : SessionRecord} {a : Session} (m : Mirrors cipher (config_of (sealing_of cipher setup) setup) side r a)
    (exts : r.state.transport.exts ≡ extensions_of setup) where
  abbrev seal : Sealing
  seal = sealing_of cipher setup

  own_rtp : (ssrc n : ℕ) (plain : List ℕ) → seal.rtp side ssrc n plain ≡ sealed_rtp cipher m.own.profile m.own.keys ssrc n (len_in r.state.transport.exts plain) plain
  own_rtp ssrc n plain = ap (λ (s : SideSealing). s.seal ssrc n plain) m.own_seals

  other_rtp : (ssrc n : ℕ) (plain : List ℕ) → seal.rtp (peer_of side) ssrc n plain ≡ sealed_rtp cipher m.other.profile m.other.keys ssrc n (len_in r.state.transport.exts plain) plain
  other_rtp ssrc n plain = ap (λ (s : SideSealing). s.seal ssrc n plain) m.other_seals

  pub right_seal : (d : Datagram) → IsRightHere cipher r.state.transport.exts m.own (outgoing_of side setup) d → IsRight seal setup (sealed_from side d)
  right_seal d (rtp_here h) = right_rtp (record {
    rtp = h.rtp;
    header = h.header;
    reads = subst (λ (x : ExtensionMap). header_of x d.plain ≡ Some h.header) exts h.reads;
    source = h.source;
    low = h.low;
    small = h.small;
    not_filler = h.not_filler;
    few = h.few;
    sealed_header = h.sealed_header;
    wire = subst (λ (x : ExtensionMap). h.header ≡ wire_form x h.sealed_header) exts h.wire;
    written = h.written ∙ ap (λ (x : ExtensionMap). header_bytes x h.sealed_header ++ drop h.header.header_len d.plain) exts;
    stream = h.stream;
    sealed = h.sealed ∙ sym (own_rtp d.ssrc d.index d.plain);
  })
  right_seal d (rtcp_here h) = right_rtcp (record {
    rtcp = h.rtcp;
    header = h.header;
    source = h.source;
    small = h.small;
    sealed = h.sealed ∙ sym (ap (λ (s : Reporting). s.seal true d.index d.plain) m.own_reports);
  })

  pub right_seals : (ds : List Datagram) → AllByRecursion (IsRightHere cipher r.state.transport.exts m.own (outgoing_of side setup)) ds → AllByRecursion (IsRightSeal seal setup) (seals_from side ds)
  right_seals [] h = tt
  right_seals (d ∷ ds) h = (right_seal d h.0, right_seals ds h.1)

  pub right_call : (feedback : Application) (d : Datagram) (entries : List Entry) → a.rtcp ≡ next_index setup side entries → IsCallRight cipher m.own feedback d
      → IsSealOfPacket seal setup side entries (text_of (AppSpecificFeedback feedback)) (sealed_from side d)
  right_call feedback d entries counts h = record {
    side = refl;
    kind = h.right.rtcp;
    ssrc = sym h.right.source ∙ ap (λ (p : List ℕ). sender_of (take 8 p)) h.plain;
    index = h.index ∙ m.index ∙ counts;
    left = h.right.small;
    plain = h.plain;
    header = subst (λ (p : List ℕ). 8 ≤ length p) h.plain h.right.header;
    bytes = h.right.sealed ∙ sym (ap (λ (s : Reporting). s.seal true d.index d.plain) m.own_reports) ∙ ap (λ (p : List ℕ). seal.rtcp side true d.index p) h.plain;
  }

  brought_yields : (came : GotEntry) (p : Option Packet) → AllByRecursion (IsBroughtBy seal setup came) (yielded side p)
  brought_yields came None = tt
  brought_yields came (Some p) = (tt, tt)

  pub right_opening : (time : ℕ) (bytes : List ℕ) (o : Opening) (p : Option RtpPacket) → IsRightOpening cipher r.state.transport.exts m.other bytes o
      → AllByRecursion (IsBroughtBy seal setup (got_as side time Rtp bytes)) (received_entries side (Some (received_of o Rtp p)))
  right_opening time bytes o p h = (
    rtp_opening (record {
      rtp = refl;
      header = h.header;
      reads = subst (λ (x : ExtensionMap). header_of x o.plain ≡ Some h.header) exts h.reads;
      source = h.source;
      low = h.low;
      sealed = other_rtp o.ssrc o.index o.plain ∙ h.sealed;
    }),
    brought_yields (got_as side time Rtp bytes) (option_map packet_told p),
  )

  pub right_rtcp_opening : (time : ℕ) (bytes : List ℕ) (o : Opening) → IsRightRtcpOpening cipher m.other bytes o
      → AllByRecursion (IsBroughtBy seal setup (got_as side time Rtcp bytes)) (received_entries side (Some (received_of o Rtcp None)))
  right_rtcp_opening time bytes o h = (
    rtcp_opening (record {
      rtcp = refl;
      header = h.header;
      source = h.source;
      stated = h.stated ∙ sym (ap (λ (s : Reporting). s.states bytes) m.other_reports);
      sealed =
          ap (λ (s : Reporting). s.seal (s.encrypts bytes) o.index o.plain) m.other_reports ∙ h.sealed;
    }),
    tt,
  )
