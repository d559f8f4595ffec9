use Rattle.resend_core.specs.ResendStore.{stored_at, stored_under, after_pushed, evicted_at}
use Rattle.resend_core.proofs.EventsAdded.{greatest_by-push, last_by-push, under_same, under_other, under_ignored, under_evicted, rising_front, may_go_more, under_stored, under_next, rising_order}
use Rattle.resend_core.proofs.EventsRevalued.{greatest_same, last_same, after_same, evicted_same, at_same, rising_same, under_far, under_all, may_go_same}
use Rattle.resend_core.proofs.laws.event_laws.Goals as goal

pub returns-clause-added : goal.returns-clause-added
returns-clause-added g c = record {
  greatest = greatest_by-push;
  newest = last_by-push stored_at;
  under_same = under_same;
  under_other = under_other;
  under_ignored = under_ignored;
  under_evicted = under_evicted;
  rising = rising_front;
  may_go = may_go_more;
}

pub returns-clause-stored : goal.returns-clause-stored
returns-clause-stored g c = record { within = under_stored; below = under_next; order = rising_order }

pub returns-clause-changed : goal.returns-clause-changed
returns-clause-changed g c = record {
  next = λ p w es. greatest_same after_pushed p w es (after_same p w);
  evictions = λ p w es. greatest_same evicted_at p w es (evicted_same p w);
  newest = λ p w es. last_same stored_at p w es (at_same p w);
  rising = rising_same;
  under_same = under_all;
  under_other = λ p w q es ne. last_same (stored_under q) p w es (under_far p w q ne);
  may_go = may_go_same;
}
