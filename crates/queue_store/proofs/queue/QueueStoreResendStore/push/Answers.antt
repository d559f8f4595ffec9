use Rattle.std.proofs.Common.{◌≡◌, ◌∙◌, true, false, sym, refl}
use Rattle.resend_core.specs.ResendStore.{pushed, with_event}
use Rattle.queue_store.specs.Queue.{StandsFor, Puts, Drops, IsFar}
use Rattle.queue_store.proofs.QueueLaws.{must_take, taken_timely, ignored_stands, put_stands, drops_stands, mark_low, far_goes, push_marks}
use Rattle.queue_store.proofs.queue.QueueStoreResendStore.push.Goals as goal

pub returns-then-not-takes-clause-ok : goal.returns-then-not-takes-clause-ok
returns-then-not-takes-clause-ok g c = λ past h. (
  false,
  (λ m. absurd (let no : false ≡ true = sym c.if-not-takes.true ∙ c.takes.ensures ∙ must_take c.args.self.now past c.args.position c.args.timestamp h m in cc)),
  ignored_stands c.event_laws.ensures.added c.args.self.now past c.args.position c.args.timestamp c.args.value h,
)

pub returns-clause-ok : goal.returns-clause-ok
returns-clause-ok g c = λ past h.
    let old = c.args.self.now in
    let mid = c.put.new.self in
    let next = with_event past (pushed c.args.position c.args.timestamp c.args.value true) in
    let puts : Puts old mid c.args.position c.args.timestamp c.args.value = c.in_ok-put.ensures.ok h.paired in
    let stands : StandsFor mid next = put_stands c.event_laws.ensures.added old mid past c.args.position c.args.timestamp c.args.value puts (taken_timely old c.args.position c.args.timestamp (sym c.takes.ensures ∙ c.if-not-takes.false)) h in
    let drops : Drops (IsFar mid) mid c.trim.new.self = c.trim.ensures puts.paired in
    (true, (λ m. refl), drops_stands (IsFar mid) mid c.trim.new.self next drops (λ p t far. far_goes c.event_laws.ensures.stored mid next p t stands far) (mark_low c.event_laws.ensures.stored (IsFar mid) mid c.trim.new.self next drops stands) stands)

pub returns-clause-marked : goal.returns-clause-marked
returns-clause-marked g c = λ past h.
    let puts : Puts c.args.self.now c.put.new.self c.args.position c.args.timestamp c.args.value = c.in_ok-put.ensures.ok h.paired in
    push_marks c.args.self.now c.put.new.self c.trim.new.self past c.args.position c.args.timestamp c.args.value puts (c.trim.ensures puts.paired)
