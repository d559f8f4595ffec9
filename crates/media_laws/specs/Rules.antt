-- The rules of a step after these entries, and the first one that it breaks.
use Rattle.std.specs.Prelude.{ℕ, Bool, not, ◌||◌, ◌==◌, nat_lt, nat_le, List, [], ◌∷◌, length, Option, Some, None}
use Rattle.std.specs.List.{list_any}
use Rattle.media_model.specs.declared.entry.Side.{Side}
use Rattle.media_model.specs.declared.entry.Write.{Write as Writing}
use Rattle.media_model.specs.declared.entry.Entry.{Entry}
use Rattle.media_model.specs.declared.step.Act.{Act}
use Rattle.media_model.specs.declared.step.Act.TheVariants.{Write, Deliver, Ask, Rate}
use Rattle.media_model.specs.declared.step.Step.{Step}
use Rattle.media_model.specs.declared.setup.Setup.{Setup}
use Rattle.media_model.specs.Sides.{peer_of}
use Rattle.media_model.specs.Setup.{streams_of, types_of}
use Rattle.media_laws.specs.declared.fault.StepFault.{StepFault}
use Rattle.media_laws.specs.declared.fault.StepFault.TheVariants.{TimeZero, TimeBack, TimeBeyond, UnknownStream, UnknownDatagram, UnknownType, NumberTooBig, NumberUsed, PayloadTooLong, TooManySources}
use Rattle.media_model.specs.Entries.{last_time, writes_on, datagrams}
pub use Rattle.setup_rules.specs.SetupRules.{has, first_fault}
use Rattle.rtp_base.specs.declared.number.TheConstants.{NUMBER_LIMIT}
use Rattle.media_model.specs.declared.step.TheConstants.{LAST_TIME}
use Rattle.stream_core.specs.declared.stream_tx.TheConstants.{MAX_PAYLOAD_LEN}
use Rattle.rtp_wire.specs.declared.header.TheConstants.{MAX_SOURCES}

-- the first fault, where there is one, else what the rules after it say
abbrev pub or_else : {F : Type 0} → Option F → Option F → Option F
or_else (Some fault) later = Some fault
or_else None later = later

-- 1 to 10^16 ns, and no time falls
abbrev pub time_rules : List Entry → ℕ → List (Bool × StepFault)
time_rules entries time =
    (time == 0, TimeZero)
    ∷ (nat_lt time (last_time entries), TimeBack)
    ∷ (nat_lt LAST_TIME time, TimeBeyond) ∷ []

abbrev pub write_rules : Setup → List Entry → Side → Writing → List (Bool × StepFault)
write_rules setup entries side w =
    (not (has (streams_of side setup) w.ssrc), UnknownStream)
    ∷ (not (has (types_of setup) w.pt), UnknownType)
    ∷ (nat_le NUMBER_LIMIT w.number, NumberTooBig)
    ∷ (list_any (λ u. u.number == w.number) (writes_on side w.ssrc entries), NumberUsed)
    ∷ (nat_lt MAX_PAYLOAD_LEN (length w.payload), PayloadTooLong)
    ∷ (nat_lt MAX_SOURCES (length w.csrc), TooManySources) ∷ []

-- a datagram that the other side sealed, counted from 1
abbrev pub deliver_rules : List Entry → Side → ℕ → List (Bool × StepFault)
deliver_rules entries side k =
    ((k == 0) || nat_lt (length (datagrams (peer_of side) entries)) k, UnknownDatagram) ∷ []

-- the main SSRC of a stream that the side receives
abbrev pub request_rules : Setup → Side → ℕ → List (Bool × StepFault)
request_rules setup side ssrc = (not (has (streams_of (peer_of side) setup) ssrc), UnknownStream) ∷ []

-- what a side may do
abbrev pub act_rules : Setup → List Entry → Side → Act → List (Bool × StepFault)
act_rules setup entries side (Write write) = write_rules setup entries side write
act_rules setup entries side (Deliver k) = deliver_rules entries side k
act_rules setup entries side (Ask ssrc kind) = request_rules setup side ssrc
act_rules setup entries side (Rate ssrc rate) = request_rules setup side ssrc
act_rules setup entries side _ = []

-- the first of them that is broken
abbrev pub time_fault : List Entry → ℕ → Option StepFault
time_fault entries time = first_fault (time_rules entries time)

abbrev pub write_fault : Setup → List Entry → Side → Writing → Option StepFault
write_fault setup entries side w = first_fault (write_rules setup entries side w)

abbrev pub deliver_fault : List Entry → Side → ℕ → Option StepFault
deliver_fault entries side k = first_fault (deliver_rules entries side k)

abbrev pub request_fault : Setup → Side → ℕ → Option StepFault
request_fault setup side ssrc = first_fault (request_rules setup side ssrc)

abbrev pub act_fault : Setup → List Entry → Side → Act → Option StepFault
act_fault setup entries side act = first_fault (act_rules setup entries side act)

-- the rules of times stand before all others
abbrev pub step_fault : Setup → List Entry → Step → Option StepFault
step_fault setup entries step = or_else (time_fault entries step.time) (act_fault setup entries step.side step.act)
