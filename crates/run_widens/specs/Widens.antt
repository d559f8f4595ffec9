-- Whether the repairs of a stream widen, entry by entry.
use Rattle.std.specs.Prelude.{◌≡◌, ℕ, ◌∷◌, ◌++◌, [], if◌then◌else◌, take, map, List, Option, Some, None}
use Rattle.rtp_base.specs.Widen.{widen16}
use Rattle.rtp_wire.specs.declared.extension.ExtensionMap.{ExtensionMap}
use Rattle.media_model.specs.declared.entry.Side.{Side}
use Rattle.media_model.specs.declared.entry.Entry.{Entry}
use Rattle.media_model.specs.declared.setup.Setup.{Setup}
use Rattle.run_model.specs.Events.{Outgoing}
use Rattle.run_model.specs.Listing.{IsIn}
use Rattle.run_model.specs.Receiving.{Lists, lists, cut}
use Rattle.rtp_wire.specs.Repairs.{original_number}
use Rattle.run_model.specs.Runs.{Happening, events_of, WidensAt, RepairsWiden}
use Rattle.run_model.specs.Transcripts.{types_of, happening_of}
use Rattle.run_model.specs.Whole.{incoming_of}
use Rattle.run_widens.specs.declared.line.Line.{Line}
use Rattle.run_widens.specs.declared.packet.Packet.{Packet}
use Rattle.run_widens.specs.declared.sent.Carried.{Carried}
use Rattle.run_widens.specs.declared.sent.Sent.{Sent}
use Rattle.run_widens.specs.declared.taken.Taken.{Taken}
use Rattle.run_widens.specs.Lines.{types_in, incoming_in, happening_in}
use Rattle.run_widens.specs.Packets.{plain_of, Repairs}
use Rattle.run_widens.specs.Sent.{is_before, first_of, last_of}
use Rattle.run_widens.specs.Taken.{taken_of, with_restored}

-- what is kept of the numbers that a line took among these happenings
abbrev pub lists_on : Line → List Happening → Lists
lists_on line past = lists (types_in line) (incoming_in line) (events_of line.side past)

abbrev pub taken_on : Line → List Happening → Taken
taken_on line past = taken_of (lists_on line past)

-- a happening widens on a line
abbrev pub Widens : Line → List Happening → Happening → Type 0
Widens line past h = WidensAt (types_in line) line.side (incoming_in line) past h

-- what is kept after a happening that widens; nothing after one that does not
abbrev pub Told : Line → List Happening → Happening → Option Taken → Type 0
Told line past h None = Widens line past h → ⊥
Told line past h (Some next) = Widens line past h × (next ≡ taken_on line (past ++ h ∷ []))

-- what a repair carries, with what stands behind its first two bytes
pub record IsCarried (k : Carried) (packet : Packet) (rest : List ℕ) : Type 0 where
  pub type : k.pt ≡ packet.pt
  pub marker : k.marker ≡ packet.marker
  pub time : k.time ≡ packet.time
  pub csrc : k.csrc.now ≡ take packet.csrc_count packet.csrc
  pub payload : k.payload.now ≡ rest

-- what is kept after a repair
pub data AfterRepair (taken : Taken) (sent : Sent) (packet : Packet) (next : Option Taken) : Type 0 where
  nothing : original_number (cut (plain_of packet)) ≡ None → next ≡ Some taken → AfterRepair taken sent packet next
  something : (k : Carried) (low : ℕ) (rest : List ℕ) → Repairs packet low rest → k.number ≡ widen16 taken.greatest low → IsCarried k packet rest
      → next ≡ (if is_before (first_of sent k) (last_of sent k.number) then Some (with_restored k.number taken) else None) → AfterRepair taken sent packet next

-- the repairs of a line widen
abbrev pub LineWidens : Line → List Entry → Type 0
LineWidens line entries = RepairsWiden (types_in line) line.side (incoming_in line) (map (happening_in line) entries)

-- the repairs of each of some streams that a side receives widen
abbrev pub AllWiden : Setup → ExtensionMap → Side → List Outgoing → List Entry → Type 0
AllWiden setup exts side streams entries =
    (L : Outgoing) → IsIn L streams → RepairsWiden (types_of setup) side (incoming_of L) (map (happening_of exts) entries)
