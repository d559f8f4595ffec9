-- What is wrong with a telephone event, in words.
use Rattle.std.specs.Prelude.{ℕ, List, codes}
use Rattle.payload_core.specs.declared.error.TelephoneFault.{TelephoneFault}
use Rattle.payload_core.specs.declared.error.TelephoneFault.TheVariants.{NoTypeForClock, EventTooGreat, NotEnded, VolumeTooGreat, WrongDuration, TooSoon}

abbrev pub reason_of : TelephoneFault → List ℕ
reason_of NoTypeForClock = codes "no negotiated telephone event for audio clock rate"
reason_of EventTooGreat = codes "event exceeds negotiated range"
reason_of NotEnded = codes "event must have end set"
reason_of VolumeTooGreat = codes "volume exceeds 63"
reason_of WrongDuration = codes "duration must be between 40 ms and 6 s"
reason_of TooSoon = codes "telephone events must be at least 50 ms apart"
