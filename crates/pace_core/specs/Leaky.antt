-- What a leaky bucket pacer stands for.
use Rattle.std.specs.Prelude.{◌≡◌, true}
use Rattle.pace_core.specs.declared.leaky.LeakyBucketPacer.{LeakyBucketPacer}
use Rattle.pace_core.specs.Past.{Past, is_leaky, pacing_in, padding_in, rate_in, since_in, has_sent, debt_in, padding_debt_in, chosen_in, moment_in, was_polled, probes_in}

-- the pacer was told this
pub record StandsFor (p : LeakyBucketPacer) (past : Past) : Type 0 where
  pub leaks : is_leaky past ≡ true
  pub paces : p.pacing_bitrate ≡ pacing_in past
  pub pads : p.padding_bitrate ≡ padding_in past
  pub drains : p.adjusted_bitrate ≡ rate_in past
  pub begins : p.last_handle_time ≡ since_in past
  pub owes : p.media_debt ≡ debt_in past
  pub owes_padding : p.padding_debt ≡ padding_debt_in past
  pub was_used : p.has_sent ≡ has_sent past
  pub chose : p.next_poll_queue ≡ chosen_in past
  pub waits_until : p.next_poll_time ≡ moment_in past
  pub gave : p.was_polled ≡ was_polled past
  pub probes : p.clusters ≡ probes_in past
