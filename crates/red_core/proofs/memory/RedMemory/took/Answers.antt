use Rattle.std.proofs.Common.{◌≡◌, ◌∙◌, ◌+◌, ◌<◌, length, take, ◌∷◌, slice_set, ap, arith}
use Rattle.std.specs.List.{refill}
use Rattle.red_core.specs.Ring.{last_first}
use Rattle.red_core.proofs.RingSteps.{pushed, replaced, turned, rewritten}
use Rattle.red_core.proofs.memory.RedMemory.took.Goals as goal
use Rattle.red_core.proofs.memory.RedMemory.took.Goals.{then-self-lt-ROOM, else-self-lt-ROOM}

pub returns-then-len-lt-ROOM : goal.returns-then-len-lt-ROOM
returns-then-len-lt-ROOM c =
    let xs = c.self.inside.known.items in
    let room : length xs < 32 = omega (arith, c.if-len-lt-ROOM.true, c.len.ensures.value) in
    (λ j. last_first (c.push.ensures.items j) (c.self.inside.next + 1)) ∙ pushed xs c.self.inside.next c.new-known.result (c.self.invariant.filled room) room
    ∙ (λ j. c.new-known.ensures j ∷ take 31 (c.self.view_is j))

pub returns : goal.returns
returns c =
    let xs = c.self.inside.known.items in
    let next = c.self.inside.next in
    let place = c.if-self-lt-ROOM.place in
    let full : length xs ≡ 32 = omega (arith, c.if-len-lt-ROOM.false, c.len.ensures.value, c.self.invariant.fits) in
    let within : place < length xs = elim c.if-self-lt-ROOM.branch [
      | then-self-lt-ROOM w ↦ omega (arith, w.place-is, w.if-self-lt-ROOM.true, full)
      | else-self-lt-ROOM w ↦ omega (arith, w.place-is, full)
    ] in
    let here : last_first xs place ≡ last_first xs next = elim c.if-self-lt-ROOM.branch [
      | then-self-lt-ROOM w ↦ ap (last_first xs) w.place-is
      | else-self-lt-ROOM w ↦ ap (last_first xs) w.place-is ∙ turned xs next (omega (arith, w.if-self-lt-ROOM.false, full))
    ] in
    (λ j. last_first (refill (length xs) xs (slice_set (c.deref_mut.ensures.value j) place c.new-known.result)) (place + 1))
    ∙ ap (λ l. last_first l (place + 1)) (rewritten xs place c.new-known.result) ∙ replaced xs place c.new-known.result within full ∙ ap (λ l. c.new-known.result ∷ take 31 l) here
    ∙ (λ j. c.new-known.ensures j ∷ take 31 (c.self.view_is j))
