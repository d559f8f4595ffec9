-- The names of the rules that steps break, and of what numbers the datagrams under a key.
use Rattle.std.specs.Prelude.{ℕ, List, ◌++◌, codes}
use Rattle.std.specs.Fmt.{decimal}
use Rattle.media_laws.specs.declared.counter.Counter.{Counter}
use Rattle.media_laws.specs.declared.counter.Counter.TheVariants.{Rtcp, Rtx}
use Rattle.media_laws.specs.declared.fault.StepFault.{StepFault}
use Rattle.media_laws.specs.declared.fault.StepFault.TheVariants.{TimeZero, TimeBack, TimeBeyond, UnknownStream, UnknownDatagram, UnknownType, NumberTooBig, NumberUsed, PayloadTooLong, TooManySources}

abbrev pub step_fault_name : StepFault → List ℕ
step_fault_name TimeZero = codes "TimeZero"
step_fault_name TimeBack = codes "TimeBack"
step_fault_name TimeBeyond = codes "TimeBeyond"
step_fault_name UnknownStream = codes "UnknownStream"
step_fault_name UnknownDatagram = codes "UnknownDatagram"
step_fault_name UnknownType = codes "UnknownType"
step_fault_name NumberTooBig = codes "NumberTooBig"
step_fault_name NumberUsed = codes "NumberUsed"
step_fault_name PayloadTooLong = codes "PayloadTooLong"
step_fault_name TooManySources = codes "TooManySources"

abbrev pub counter_name : Counter → List ℕ
counter_name Rtcp = codes "Rtcp"
counter_name (Rtx ssrc) = codes "Rtx " ++ decimal ssrc
