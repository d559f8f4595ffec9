-- Frames that are sent again beside later ones (RFC 2198).
use Rattle.std.specs.Prelude.{ℕ, ◌+◌, ◌-◌, ◌<◌, ◌≤◌, max, fold, reverse, Bool, true, false, ◌==◌, nat_lt, nat_le, ◌&&◌, if◌then◌else◌, List, [], ◌∷◌, length, take, drop}
use Rattle.std.specs.List.{list_any}
use Rattle.payload_core.specs.Red.{Block}
use Rattle.payload_core.specs.RedWriting.{red_bytes}
use Rattle.payload_core.specs.Remembered.{Remembered}
use Rattle.payload_core.specs.declared.payload.MediaPacket.{MediaPacket}
use Rattle.payload_core.specs.declared.red_sender.SentFrame.{SentFrame}
use Rattle.payload_core.specs.declared.red.TheConstants.{RED_LEN_LIMIT, RED_OFFSET_LIMIT}

abbrev pub no_frames : ℕ → ℕ → List ℕ → Remembered
no_frames red_pt pt distances = record { red_pt = red_pt; pt = pt; distances = distances; sent = [] }

-- with types and distances that may have changed: frames of another type are forgotten
abbrev pub synced : Remembered → ℕ → ℕ → List ℕ → Remembered
synced s red_pt pt distances = record { red_pt = red_pt; pt = pt; distances = distances; sent = if s.pt == pt then s.sent else [] }

-- the frame is not later than this time, its offset fits 14 bits and its length 10, and there is room for
-- its header and itself
abbrev pub fits : ℕ → ℕ → SentFrame → Bool
fits time room s =
    nat_le s.time time && (nat_lt (time - s.time) RED_OFFSET_LIMIT && (nat_lt (length s.payload) RED_LEN_LIMIT && nat_le (4 + length s.payload) room))

pub record Fits (time room : ℕ) (s : SentFrame) : Type 0 where
  pub before : s.time ≤ time
  pub near : time - s.time < RED_OFFSET_LIMIT
  pub short : length s.payload < RED_LEN_LIMIT
  pub roomy : 4 + length s.payload ≤ room

-- the block of a frame beside one of this time, and that one's own
abbrev pub older_block : ℕ → ℕ → SentFrame → Block
older_block pt time s = record { pt = pt; offset = time - s.time; payload = s.payload; primary = false }

abbrev pub first_block : ℕ → List ℕ → Block
first_block pt frame = record { pt = pt; offset = 0; payload = frame; primary = true }

-- the blocks of the frames from a distance on, the nearest first: those whose distance is asked for and
-- which fit the room that the nearer ones leave
abbrev pub chosen : ℕ → List ℕ → ℕ → ℕ → ℕ → List SentFrame → List Block
chosen pt distances time room distance [] = []
chosen pt distances time room distance (s ∷ later) =
    if list_any (λ d. d == distance) distances && fits time room s
    then older_block pt time s ∷ chosen pt distances time (room - (4 + length s.payload)) (distance + 1) later
    else chosen pt distances time room (distance + 1) later

-- the blocks of a frame: the older ones, the nearest last, and its own
abbrev pub frame_blocks : Remembered → ℕ → List ℕ → ℕ → List Block
frame_blocks s time frame limit =
    reverse (first_block s.pt frame ∷ chosen s.pt s.distances time (limit - 1 - length frame) 1 s.sent)

-- a frame was sent, and none was forgotten
abbrev pub with_frame : Remembered → ℕ → List ℕ → Remembered
with_frame s time frame = record s { sent = record { time = time; payload = frame } ∷ s.sent }

-- the frame that was sent last is forgotten
abbrev pub without_last : Remembered → Remembered
without_last s = record s { sent = drop 1 s.sent }

-- as many frames are remembered as the greatest distance says
abbrev pub trimmed : Remembered → Remembered
trimmed s = record s { sent = take (fold max 0 s.distances) s.sent }

-- a frame was sent
abbrev pub with_sent : Remembered → ℕ → List ℕ → Remembered
with_sent s time frame = trimmed (with_frame s time frame)

-- the packet under the type of RED, with the older frames before its own
abbrev pub wrapped : Remembered → MediaPacket → ℕ → MediaPacket
wrapped s p limit = record p { pt = s.red_pt; payload = red_bytes (frame_blocks s p.rtp_time.numer p.payload limit) }
