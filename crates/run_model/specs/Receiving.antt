-- Which numbers an incoming stream has, read off what was opened, and what it yields.
use Rattle.std.specs.Prelude.{◌≡◌, ◌≤◌, ◌+◌, ◌*◌, ◌%◌, ℕ, Bool, true, IsTrue, ◌&&◌, ◌||◌, ◌==◌, not, if◌then◌else◌, length, List, [], ◌∷◌, ◌++◌, Option, Some, None, IsSome, unwrap_or}
use Rattle.std.specs.List.{flat_map, fold}
use Rattle.rtp_base.specs.Widen.{widen16}
use Rattle.rtp_base.specs.Window.{is_fresh_rtx, is_fresh_after, greatest_after, is_just}
use Rattle.repair_core.specs.Fresh.{greatest_of, is_fresh, started_from}
use Rattle.rtp_wire.specs.Padding.{unpadded}
use Rattle.rtp_wire.specs.Repairs.{original_number}
use Rattle.media_model.specs.declared.entry.Packet.{Packet}
use Rattle.run_model.specs.Events.{Plain, Event, opened, yielded, Types, Incoming}
use Rattle.run_model.specs.Seals.{Sealing, IsSeal}
use Rattle.srtp_core.specs.declared.context.TheConstants.{MAX_DATAGRAM_LEN}

-- the payload without its padding (RFC 3550 section 5.1)
abbrev pub cut : Plain → List ℕ
cut p = if p.padded then unwrap_or (unpadded p.payload) p.payload else p.payload

-- the numbers of a stream, each list in order of opening: those opened under its main SSRC with the restored ones, those
-- opened under its RTX SSRC, those of the repair datagrams, with the floor that the first of these met, and the numbers taken:
-- those of the other datagrams and the restored ones that were fresh
pub record Lists : Type 0 where
  pub seen_main : List ℕ
  pub seen_rtx : List ℕ
  pub tried : List ℕ
  pub floor : Option ℕ
  pub taken : List ℕ

abbrev pub no_lists : Lists
no_lists = record { seen_main = []; seen_rtx = []; tried = []; floor = None; taken = [] }

abbrev pub concerns : Incoming → ℕ → Bool
concerns L ssrc = (ssrc == L.ssrc) || is_just ssrc L.rtx

-- a repair datagram has an RTX SSRC, or an RTX type on a main SSRC other than 0
abbrev pub is_repair : Types → Incoming → ℕ → Plain → Bool
is_repair T L ssrc p = is_just ssrc L.rtx || (T.is_rtx p.pt && not (L.ssrc == 0))

abbrev pub seen_of : Incoming → Lists → ℕ → List ℕ
seen_of L l ssrc = if ssrc == L.ssrc then l.seen_main else l.seen_rtx

abbrev pub with_seen : Incoming → Lists → ℕ → ℕ → Lists
with_seen L l ssrc n = record l {
  seen_main = if ssrc == L.ssrc then l.seen_main ++ n ∷ [] else l.seen_main;
  seen_rtx = if ssrc == L.ssrc then l.seen_rtx else l.seen_rtx ++ n ∷ [];
}

-- an empty list of numbers taken first takes the greatest number seen, if there is one
abbrev pub begun_with : Option ℕ → List ℕ → List ℕ
begun_with seen [] = started_from seen
begun_with seen (n ∷ ns) = n ∷ ns

abbrev pub begun_taken : Lists → List ℕ
begun_taken l = begun_with (greatest_of l.seen_main) l.taken

-- the floor of repair datagrams: with none yet, the greatest number seen of the datagram's SSRC
abbrev pub floor_with : Option ℕ → Option ℕ → List ℕ → Option ℕ
floor_with seen floor [] = seen
floor_with seen floor (n ∷ ns) = floor

abbrev pub floor_of : Incoming → Lists → ℕ → Option ℕ
floor_of L l ssrc = floor_with (greatest_of (seen_of L l ssrc)) l.floor l.tried

-- what the own number of a repair datagram widens by
abbrev pub base_with : Option ℕ → List ℕ → Option ℕ
base_with None [] = None
base_with None (n ∷ ns) = Some (greatest_after None (n ∷ ns))
base_with (Some floor) ns = Some (greatest_after (Some floor) ns)

-- the number of a datagram of which the header has the low 16 bits, and whether it is fresh
abbrev pub widened : Types → Incoming → Lists → ℕ → Plain → ℕ → ℕ
widened T L l ssrc p low =
    if is_repair T L ssrc p then widen16 (base_with (floor_of L l ssrc) l.tried) low else widen16 (greatest_of (begun_taken l)) low

abbrev pub is_fresh_number : Types → Incoming → Lists → ℕ → Plain → ℕ → Bool
is_fresh_number T L l ssrc p n =
    if is_repair T L ssrc p
    then (if p.padded then is_fresh_rtx (seen_of L l ssrc) n else is_fresh_after (floor_of L l ssrc) l.tried n)
    else is_fresh (begun_taken l) n

-- what is behind the first two bytes of a repair
abbrev pub behind_two : List ℕ → List ℕ
behind_two [] = []
behind_two (a ∷ []) = []
behind_two (a ∷ b ∷ rest) = rest

-- the lists once the own number of a repair datagram is in them
abbrev pub with_tried : Incoming → Lists → ℕ → ℕ → Lists
with_tried L l ssrc n = record (with_seen L l ssrc n) { tried = l.tried ++ n ∷ []; floor = floor_of L l ssrc }

-- the number that a repair datagram restores: its first two bytes, widened by the greatest number taken
abbrev pub restored_by : Lists → Option ℕ → Option ℕ
restored_by l None = None
restored_by l (Some low) = Some (widen16 (greatest_of (begun_taken l)) low)

abbrev pub restored : Incoming → Lists → ℕ → ℕ → Plain → Option ℕ
restored L l ssrc n p = restored_by (with_tried L l ssrc n) (original_number (cut p))

abbrev pub with_restored : Lists → Option ℕ → Lists
with_restored l None = l
with_restored l (Some q) = record l {
  seen_main = l.seen_main ++ q ∷ [];
  taken = if is_fresh (begun_taken l) q then begun_taken l ++ q ∷ [] else l.taken;
}

-- the lists after a datagram of the stream was opened
abbrev pub after_first : Lists → ℕ → Lists
after_first l n = record l { seen_main = l.seen_main ++ n ∷ []; taken = begun_taken l ++ n ∷ [] }

abbrev pub after_repair : Incoming → Lists → ℕ → ℕ → Plain → Lists
after_repair L l ssrc n p = with_restored (with_tried L l ssrc n) (restored L l ssrc n p)

abbrev pub after_opened : Types → Incoming → Lists → ℕ → ℕ → Plain → Lists
after_opened T L l ssrc n p = if is_repair T L ssrc p then after_repair L l ssrc n p else after_first l n

abbrev pub list_step : Types → Incoming → Lists → Event → Lists
list_step T L l (opened ssrc n p) = if concerns L ssrc then after_opened T L l ssrc n p else l
list_step T L l _ = l

abbrev pub lists : Types → Incoming → List Event → Lists
lists T L events = fold (list_step T L) no_lists events

-- the packet of a first sending, and that which a repair restores
abbrev pub first_packet : Incoming → ℕ → Plain → Packet
first_packet L n p = record { ssrc = L.ssrc; number = n; pt = p.pt; rtp_time = p.time; marker = p.marker; csrc = p.csrc; payload = cut p }

abbrev pub restored_packet : Types → Incoming → ℕ → Plain → Packet
restored_packet T L q p = record { ssrc = L.ssrc; number = q; pt = T.primary_of p.pt; rtp_time = p.time; marker = p.marker; csrc = p.csrc; payload = behind_two (cut p) }

-- a repair yields where the restored number is fresh
abbrev pub repair_yields : Types → Incoming → Lists → Option ℕ → Plain → List Packet
repair_yields T L l None p = []
repair_yields T L l (Some q) p = if is_fresh (begun_taken l) q then restored_packet T L q p ∷ [] else []

-- what is yielded where a datagram is opened: nothing on SSRC 0
abbrev pub yields : Types → Incoming → Lists → ℕ → ℕ → Plain → List Packet
yields T L l ssrc n p =
    if is_repair T L ssrc p
    then repair_yields T L (with_tried L l ssrc n) (restored L l ssrc n p) p
    else (if L.ssrc == 0 then [] else first_packet L n p ∷ [])

-- bytes open on the stream
pub record Opens (T : Types) (L : Incoming) (peer : Sealing) (l : Lists) (bytes : List ℕ) (ssrc n : ℕ) (p : Plain) : Type 0 where
  pub short : length bytes ≤ MAX_DATAGRAM_LEN
  pub mine : concerns L ssrc ≡ true
  pub claimed : ((L.ssrc == 0) || T.claims p.pt) ≡ true
  pub number : n ≡ widened T L l ssrc p (n % 65536)
  pub fresh : is_fresh_number T L l ssrc p n ≡ true
  pub sealed : IsSeal peer ssrc n p bytes
  pub unpads : IsTrue p.padded → IsSome (unpadded p.payload)

-- the packets that were yielded on the stream
abbrev pub packet_on : Incoming → Event → List Packet
packet_on L (yielded packet) = if packet.ssrc == L.ssrc then packet ∷ [] else []
packet_on L _ = []

abbrev pub packets_on : Incoming → List Event → List Packet
packets_on L events = flat_map (packet_on L) events
