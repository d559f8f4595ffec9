-- What is read off the entries of a run.
use Rattle.std.specs.Prelude.{ℕ, Bool, cond, ◌&&◌, ◌==◌, List, [], ◌∷◌, Option, Some, None, is_some, option_map, option_to_list, if◌then◌else◌}
use Rattle.std.specs.List.{flat_map, fold}
use Rattle.media_model.specs.declared.entry.Side.{Side}
use Rattle.rtp_base.specs.declared.kind.Kind.{Kind}
use Rattle.rtp_base.specs.declared.kind.Kind.TheVariants.{Rtp, Rtcp}
use Rattle.media_model.specs.declared.entry.Write.{Write}
use Rattle.media_model.specs.declared.entry.Packet.{Packet}
use Rattle.media_model.specs.declared.entry.Sealed.{Sealed as SealedEntry}
use Rattle.media_model.specs.declared.entry.Entry.{Entry}
use Rattle.media_model.specs.declared.entry.Entry.TheVariants.{Wrote, Ticked, Called, Got, Sealed, Yielded}
use Rattle.rtp_base.specs.Kind.{same_kind}
use Rattle.media_model.specs.Sides.{same_side}

-- the writes of a side on an SSRC, in order
abbrev pub write_on : Side → ℕ → Entry → List Write
write_on side ssrc (Wrote s time write) = cond (same_side side s && (write.ssrc == ssrc)) (write ∷ []) []
write_on side ssrc _ = []

abbrev pub writes_on : Side → ℕ → List Entry → List Write
writes_on side ssrc entries = flat_map (write_on side ssrc) entries

-- the writes of a side, in order
abbrev pub write_by : Side → Entry → List Write
write_by side (Wrote s time write) = cond (same_side side s) (write ∷ []) []
write_by side _ = []

abbrev pub writes_by : Side → List Entry → List Write
writes_by side entries = flat_map (write_by side) entries

-- the numbers under which a side sealed RTP on an SSRC, in order
abbrev pub sealed_number_on : Side → ℕ → Entry → List ℕ
sealed_number_on side ssrc (Sealed s) = cond (same_side side s.side && (same_kind Rtp s.kind && (s.ssrc == ssrc))) (s.index ∷ []) []
sealed_number_on side ssrc _ = []

abbrev pub sealed_numbers : Side → ℕ → List Entry → List ℕ
sealed_numbers side ssrc entries = flat_map (sealed_number_on side ssrc) entries

-- the datagrams that a side sealed, of both kinds, in order
abbrev pub datagram_by : Side → Entry → List SealedEntry
datagram_by side (Sealed s) = cond (same_side side s.side) (s ∷ []) []
datagram_by side _ = []

abbrev pub datagrams : Side → List Entry → List SealedEntry
datagrams side entries = flat_map (datagram_by side) entries

-- the indices under which a side sealed RTCP, in order
abbrev pub srtcp_index_by : Side → Entry → List ℕ
srtcp_index_by side (Sealed s) = cond (same_side side s.side && same_kind Rtcp s.kind) (s.index ∷ []) []
srtcp_index_by side _ = []

abbrev pub srtcp_indices : Side → List Entry → List ℕ
srtcp_indices side entries = flat_map (srtcp_index_by side) entries

-- kind, SSRC and index of what a side sealed, in order
abbrev pub nonce_by : Side → Entry → List (Kind × ℕ × ℕ)
nonce_by side (Sealed s) = cond (same_side side s.side) ((s.kind, s.ssrc, s.index) ∷ []) []
nonce_by side _ = []

abbrev pub nonces : Side → List Entry → List (Kind × ℕ × ℕ)
nonces side entries = flat_map (nonce_by side) entries

-- the datagram that came last to a side
abbrev pub got_after : Side → Option (List ℕ) → Entry → Option (List ℕ)
got_after side last (Got got) = if same_side side got.side then Some got.bytes else last
got_after side last _ = last

abbrev pub last_got : Side → List Entry → Option (List ℕ)
last_got side entries = fold (got_after side) None entries

-- the packets that a side yielded, in order
abbrev pub packet_by : Side → Entry → List Packet
packet_by side (Yielded s packet) = cond (same_side side s) (packet ∷ []) []
packet_by side _ = []

abbrev pub packets : Side → List Entry → List Packet
packets side entries = flat_map (packet_by side) entries

-- whose step an entry is, and when, where it is a step and not what a step brings
abbrev pub moment_of : Entry → Option (Side × ℕ)
moment_of (Wrote side time write) = Some (side, time)
moment_of (Ticked side time) = Some (side, time)
moment_of (Called side time call) = Some (side, time)
moment_of (Got got) = Some (got.side, got.time)
moment_of _ = None

-- the times of the steps, in order
abbrev pub time_of : Entry → List ℕ
time_of entry = option_to_list (option_map (λ moment. moment.1) (moment_of entry))

-- the time of the last step, 0 before any
abbrev pub latest : List ℕ → ℕ
latest [] = 0
latest (t ∷ []) = t
latest (t ∷ u ∷ ts) = latest (u ∷ ts)

abbrev pub last_time : List Entry → ℕ
last_time entries = latest (flat_map time_of entries)

-- whether an entry is a step, and not what a step brings
abbrev pub is_step : Entry → Bool
is_step entry = is_some (moment_of entry)
