-- A run in which a packet is lost, asked for, repaired and yielded, and which meets the premises
-- of the laws of runs.
use Rattle.std.specs.Prelude.{◌≡◌, ◌%◌, ◌++◌, ℕ, Bool, true, false, List, [], ◌∷◌, Option, Some, None}
use Rattle.rtp_base.specs.Widen.{widen16}
use Rattle.rtp_base.specs.declared.kind.Kind.TheVariants.{Rtp}
use Rattle.rtp_base.specs.declared.nack_entry.NackEntry.{NackEntry}
use Rattle.rtcp_wire.specs.declared.rtcp_fb.RtcpFb.TheVariants.{Nack}
use Rattle.repair_core.specs.Entries.{names}
use Rattle.repair_core.specs.Fresh.{greatest_of, is_fresh}
use Rattle.media_model.specs.declared.entry.Side.{Side}
use Rattle.media_model.specs.declared.entry.Side.TheVariants.{A, B}
use Rattle.media_model.specs.declared.entry.Write.{Write}
use Rattle.media_model.specs.declared.setup.CipherName.TheVariants.{Toy}
use Rattle.media_model.specs.declared.setup.Codec.TheVariants.{Vp8}
use Rattle.media_model.specs.declared.setup.Key.TheVariants.{Zero}
use Rattle.media_model.specs.declared.setup.MediaKind.TheVariants.{Video}
use Rattle.media_model.specs.declared.setup.Setup.{Setup}
use Rattle.media_model.specs.Setup.{local_of}
use Rattle.media_model.specs.Sides.{peer_of}
use Rattle.srtp_core.specs.declared.profile.SrtpProfile.TheVariants.{AeadAes128Gcm}
use Rattle.rtcp_items.specs.declared.extended.DlrrItem.{DlrrItem as Delay}
use Rattle.run_model.specs.Events.{as_packet, Plain, Event, ticked, got, sealed, opened, opened_items, yielded, Outgoing, Incoming}
use Rattle.run_model.specs.Listing.{IsIn}
use Rattle.run_model.specs.Capping.{IsCapped}
use Rattle.run_model.specs.Sending.{Sendings, sendings, cached, last_number, wanted, Kept, sending_of, repair_of}
use Rattle.run_model.specs.Seals.{Sealing, Reporting, IsSeal}
use Rattle.run_model.specs.Transcripts.{types_of, outgoing_of}
use Rattle.run_model.specs.Receiving.{lists, begun_taken}
use Rattle.run_model.specs.RxPlay.{RxRecord}
use Rattle.run_model.specs.Asking.{asked, is_round, owed, RxSide, side_of}
use Rattle.run_model.specs.Runs.{Happening, events_of, on_side, IsGenuine, RepairsWiden}
use Rattle.run_model.specs.Whole.{Config, Session, session_of, incoming_of, setup_of, Turns, Played, IsSound, HeadsApart, IsPlainWrite}
use Rattle.media_model.specs.declared.setup.TheConstants.{DEFAULT_CACHE_PACKETS, DEFAULT_CACHE_NANOS, DEFAULT_MTU_TARGET, DEFAULT_MTU_WARN, DEFAULT_AUDIO_NANOS, DEFAULT_VIDEO_NANOS, DEFAULT_PAUSE_THRESHOLD_NANOS}

-- type 96, whose RTX type is 97, and one stream: A sends it on SSRC 42, its repairs on SSRC 43 from
-- number 5 on, with no cap
abbrev pub setup : Setup
setup = record {
  cipher = Toy;
  profile = AeadAes128Gcm;
  key = Zero;
  beginning = record { unix_secs = 1700000000 };
  mtu = record { target = DEFAULT_MTU_TARGET; warn = DEFAULT_MTU_WARN };
  pause_threshold = DEFAULT_PAUSE_THRESHOLD_NANOS;
  intervals = record { audio = DEFAULT_AUDIO_NANOS; video = DEFAULT_VIDEO_NANOS };
  a = record { ssrc = 1; srtcp_index = 0 };
  b = record { ssrc = 2; srtcp_index = 0 };
  exts = [];
  types = record { pt = 96; codec = Vp8; rate = 90000; rtx = Some 97; red = None; pli = true; fir = true } ∷ [];
  media = record {
    mid = 48 ∷ [];
    kind = Video;
    cname = 48 ∷ [];
    streams = record { side = A; ssrc = 42; rtx = Some 43; rid = None } ∷ [];
  } ∷ [];
  starts = record { ssrc = 42; number = 5 } ∷ [];
  caches = record {
    ssrc = 42;
    cache = record { packets = DEFAULT_CACHE_PACKETS; age = DEFAULT_CACHE_NANOS; cap = None };
  } ∷ [];
}

-- the stream as the sessions see it
abbrev pub stream : Outgoing
stream = record {
  ssrc = 42;
  rtx = Some 43;
  start = 5;
  packets = DEFAULT_CACHE_PACKETS;
  age = DEFAULT_CACHE_NANOS;
  cap = None;
}

abbrev pub unmarked : ℕ → List ℕ → Plain
unmarked pt payload = record {
  pt = pt;
  padded = false;
  marker = false;
  time = 0;
  csrc = [];
  payload = payload;
}

-- a plain datagram here is its SSRC, the low 16 bits of its number, its type, and its payload
abbrev pub read_plain : List ℕ → Option (ℕ × ℕ × Plain)
read_plain (ssrc ∷ low ∷ pt ∷ payload) =
    Some (ssrc, low, unmarked pt payload)
read_plain _ = None

-- what the NACK has, which asks for number 2 alone
abbrev pub request : NackEntry
request = record { pid = 2; blp = 0 }

-- the plain sessions of the setup, with what seals, what an item tells of the round trip, and whose
-- SSRCs are whose
abbrev pub with_seals : (Side → Sealing) → (Side → Reporting) → (ℕ → Delay → Option ℕ)
    → (Side → ℕ → Bool) → Config
with_seals seals reports trip owns = record {
  types = types_of setup;
  threshold = setup.pause_threshold;
  trip = trip;
  seals = seals;
  reports = reports;
  owns = owns;
  first_index = λ side. (local_of side setup).srtcp_index;
  outgoing = λ side. outgoing_of side setup;
}

-- a seal is the plain itself
abbrev pub bare_sealing : Sealing
bare_sealing = record { read = read_plain; seal = λ ssrc n plain. plain }

-- and each RTCP datagram is that NACK
abbrev pub bare_reporting : Reporting
bare_reporting = record {
  seal = λ encrypted index packet. packet;
  encrypts = λ bytes. true;
  states = λ bytes. 0;
  items = λ packet. Nack 42 (request ∷ []) ∷ [];
}

abbrev pub example : Config
example =
    with_seals (λ side. bare_sealing) (λ side. bare_reporting) (λ now d. None) (λ side ssrc. false)

abbrev pub write_numbered : ℕ → Write
write_numbered n = record {
  ssrc = 42;
  number = n;
  pt = 96;
  rtp_time = 0;
  marker = false;
  nackable = true;
  csrc = [];
  payload = n ∷ [];
}

-- a step of a side in a run, with the entries before it and what it brings
pub record IsStep (C : Config) (run : List Happening) (side : Side) (before : List Happening)
    (new : List Event) : Type 0 where
  pub a : Session
  pub b : Session
  pub after : Session
  pub rest : List Happening
  pub played : Played C a b before
  pub turns : Turns C side (session_of side a b) after new
  pub whole : run ≡ before ++ (on_side side new ++ rest)

-- what B knows by the entries before a moment
abbrev pub receiver : Config → List Happening → RxSide
receiver C before = side_of (setup_of C B) (events_of B before)

-- a tick of B is a round, and number 2 alone is due on the stream, and asked for
pub record AsksForTwo (C : Config) (run : List Happening) : Type 0 where
  pub before : List Happening
  pub time : ℕ
  pub new : List Event
  pub step : IsStep C run B before (ticked time ∷ new)
  pub round : is_round (receiver C before) time ≡ true
  pub line : Incoming × RxRecord
  pub there : IsIn line (receiver C before).table
  pub ssrc : line.0.ssrc ≡ 42
  pub due : owed (receiver C before) time line ≡ 2 ∷ []
  pub asked : asked 42 new ≡ 2 ∷ []

-- what A sent on the stream before a moment
abbrev pub sender : List Happening → Sendings
sender before = sendings 42 (events_of A before)

-- the number that it keeps last
abbrev pub last_kept : Config → List Happening → Option ℕ
last_kept C before = last_number (cached C.types stream (sender before).sent)

-- at a tick of A number 2 alone is asked for, has to be held, and no cap is met; it is repaired
pub record RepairsTwo (C : Config) (run : List Happening) : Type 0 where
  pub before : List Happening
  pub time : ℕ
  pub new : List Event
  pub step : IsStep C run A before (ticked time ∷ new)
  pub asked : wanted (last_kept C before) (sender before).named ≡ 2 ∷ []
  pub kept : Kept C.types stream (sender before).sent 2
  pub uncapped : IsCapped stream (events_of A before) time → ⊥
  pub bytes : List ℕ
  pub repaired : IsIn (sealed 43 5 (repair_of 97 (write_numbered 2)) bytes) new

-- the numbers that B took on the stream before a moment
abbrev pub taken_before : Config → List Happening → List ℕ
taken_before C before = begun_taken (lists C.types (incoming_of stream) (events_of B before))

-- the datagram of a write that A sent comes to B, its number widens to itself and is fresh, and it
-- is yielded
pub record TakesAWrite (C : Config) (run : List Happening) : Type 0 where
  pub before : List Happening
  pub time : ℕ
  pub bytes : List ℕ
  pub new : List Event
  pub step : IsStep C run B before (got time Rtp bytes ∷ new)
  pub write : ℕ × Write
  pub sent : IsIn write (sender before).sent
  pub plain : IsPlainWrite C write.1 bytes
  pub sealed : IsSeal (C.seals A) 42 write.1.number (sending_of write.1) bytes
  pub widens :
      widen16 (greatest_of (taken_before C before)) (write.1.number % 65536) ≡ write.1.number
  pub fresh : is_fresh (taken_before C before) write.1.number ≡ true
  pub yielded : IsIn (yielded (as_packet write.1)) new

-- A run of a sound configuration, genuine, whose repairs widen and whose seals show their heads. In
-- it A sends packet 2, B opens no first sending of it, A hears a NACK that names it alone and seals
-- a repair, B opens that and yields the packet. In it something is due, something has to be sent
-- again, and a first sending is taken.
pub record IsRepairedRun (C : Config) (entries : List Happening) : Type 0 where
  pub a : Session
  pub b : Session
  pub sound : IsSound C
  pub heads : (side : Side) → HeadsApart (C.seals side)
  pub streams : C.outgoing A ≡ stream ∷ []
  pub played : Played C a b entries
  pub genuine : IsGenuine entries
  pub widen : (side : Side) (M : Outgoing) → IsIn M (C.outgoing (peer_of side))
      → RepairsWiden C.types side (incoming_of M) entries
  pub datagram : List ℕ
  pub sent : IsIn (A, sealed 42 2 (sending_of (write_numbered 2)) datagram) entries
  pub lost : (p : Plain) → IsIn (B, opened 42 2 p) entries → ⊥
  pub asked : IsIn (A, opened_items 0 (Nack 42 (request ∷ []) ∷ [])) entries
  pub names_two : names request ≡ 2 ∷ []
  pub repair : List ℕ
  pub repaired : IsIn (A, sealed 43 5 (repair_of 97 (write_numbered 2)) repair) entries
  pub opened : IsIn (B, opened 43 5 (repair_of 97 (write_numbered 2))) entries
  pub yielded : IsIn (B, yielded (as_packet (write_numbered 2))) entries
  pub asks : AsksForTwo C entries
  pub repairs : RepairsTwo C entries
  pub takes : TakesAWrite C entries

-- there is one
abbrev pub RepairsMeetThePremises : Type 0
RepairsMeetThePremises = (entries : List Happening) × IsRepairedRun example entries
