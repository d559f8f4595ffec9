-- The sessions of runs, as their callers see them: each incoming stream has a mask of what came, and what an outgoing one sends
-- again stands in a queue.
use Rattle.mask_register.specs.declared.register.MaskRegister.{MaskRegister}
use Rattle.mask_register.specs.MaskRegister.{Remembers}
use Rattle.queue_store.specs.declared.queue.QueueStore.{QueueStore}
use Rattle.queue_store.specs.Queue.{StandsFor as Holds}
use Rattle.session_core.specs.SessionRecord.{SessionView, SessionRecord, StandsFor}
use Rattle.stream_core.specs.Repairing.{SentPacket}

abbrev pub EndSession : Type 0
EndSession = SessionView MaskRegister (QueueStore SentPacket)

abbrev pub SessionStands : EndSession → SessionRecord → Type 0
SessionStands v r = StandsFor Remembers Holds v r
