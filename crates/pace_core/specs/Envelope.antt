-- The bound on what a leaky bucket lets out.
use Rattle.std.specs.Prelude.{ℕ, ◌+◌, ◌-◌, ◌*◌, ◌≤◌, List, [], ◌∷◌, ◌++◌}
use Rattle.pace_core.specs.declared.leaky.TheConstants.{MAX_PACKET_IN_TIME}
use Rattle.pace_core.specs.Bucket.{Event, timeout, send, Bucket, step, burst}

-- what is sent
abbrev pub amount_of : List Event → ℕ
amount_of [] = 0
amount_of (timeout now rate ∷ events) = amount_of events
amount_of (send amount ∷ events) = amount + amount_of events

-- the rate of the last timeout, after an earlier one
abbrev pub last_rate : ℕ → List Event → ℕ
last_rate rate [] = rate
last_rate rate (timeout now later ∷ events) = last_rate later events
last_rate rate (send amount ∷ events) = last_rate rate events

-- the moment of the last timeout, after an earlier one
abbrev pub last_moment : ℕ → List Event → ℕ
last_moment since [] = since
last_moment since (timeout now rate ∷ events) = last_moment now events
last_moment since (send amount ∷ events) = last_moment since events

-- rate times elapsed, summed from a timeout at that rate and moment to the last one
abbrev pub drained : ℕ → ℕ → List Event → ℕ
drained rate since [] = 0
drained rate since (timeout now later ∷ events) = rate * (now - since) + drained later now events
drained rate since (send amount ∷ events) = drained rate since events

-- each packet was let out while at most the burst was owed, and is at most 460 ms at the rate of the timeout before it
abbrev pub AreLetOut : Bucket → List Event → Type 0
AreLetOut b [] = Unit {0}
AreLetOut b (timeout now rate ∷ events) = AreLetOut (step b (timeout now rate)) events
AreLetOut b (send amount ∷ events) = (b.debt ≤ burst b.rate) × (amount ≤ b.rate * MAX_PACKET_IN_TIME) × AreLetOut (step b (send amount)) events

-- whatever was owed before: from one packet to another, both included, no more is sent than rate times elapsed from the
-- timeout before the first to the timeout before the last, and the burst at the last, and the last packet
abbrev pub Envelope : Type 0
Envelope =
    (b : Bucket) (first last : ℕ) (between : List Event) → AreLetOut b (send first ∷ (between ++ send last ∷ []))
    → amount_of (send first ∷ (between ++ send last ∷ [])) ≤ drained b.rate b.since between + burst (last_rate b.rate between) + last
