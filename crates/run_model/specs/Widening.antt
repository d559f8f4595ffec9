-- When the repairs of a run widen.
use Rattle.std.specs.Prelude.{List}
use Rattle.media_model.specs.declared.entry.Side.{Side}
use Rattle.media_model.specs.declared.entry.Entry.{Entry}
use Rattle.media_model.specs.declared.setup.Setup.{Setup}
use Rattle.media_model.specs.Sides.{peer_of}
use Rattle.run_model.specs.Events.{Outgoing}
use Rattle.run_model.specs.Listing.{IsIn}
use Rattle.run_model.specs.Runs.{RepairsWiden}
use Rattle.run_model.specs.Transcripts.{happenings, types_of, outgoing_of}
use Rattle.run_model.specs.Whole.{incoming_of}

-- each repair that is opened and restores a number carries a write of its stream that the other side sealed before under it
abbrev pub RunWidens : Setup → List Entry → Type 0
RunWidens setup entries =
    (side : Side) (L : Outgoing) → IsIn L (outgoing_of (peer_of side) setup) → RepairsWiden (types_of setup) side (incoming_of L) (happenings setup entries)
