-- Estimates and clusters of probes that come at moments which were set before.
use Rattle.std.specs.Prelude.{ℕ, ◌+◌, ◌-◌, ◌≤◌, ◌==◌, nat_lt, nat_le, Bool, if◌then◌else◌, List, [], ◌∷◌, length, drop, slice_get, Option, None, option_map}
use Rattle.pace_units.specs.Queue.{earlier_of}
use Rattle.pace_units.specs.declared.probe.ProbeClusterConfig.{ProbeClusterConfig}

-- the estimates and the clusters with their moments; how many of each are due; and how many of those were given
pub record Script : Type 0 where
  pub estimates : List (ℕ × ℕ)
  pub probes : List (ℕ × ProbeClusterConfig)
  pub due : ℕ
  pub polled : ℕ
  pub due_probes : ℕ
  pub given : ℕ

-- how many of these, from the first on, are not after a moment
abbrev pub count_until : {T : Type 0} → List (ℕ × T) → ℕ → ℕ
count_until [] now = 0
count_until (e ∷ es) now = if nat_le e.0 now then 1 + count_until es now else 0

-- how many are due at a moment, after so many were
abbrev pub due_at : {T : Type 0} → List (ℕ × T) → ℕ → ℕ → ℕ
due_at all due now = due + count_until (drop due all) now

-- nothing is due yet
abbrev pub new_script : List (ℕ × ℕ) → List (ℕ × ProbeClusterConfig) → Script
new_script estimates probes = record { estimates = estimates; probes = probes; due = 0; polled = 0; due_probes = 0; given = 0 }

-- no more are due than there are, and no more were given than are due
pub record IsScript (s : Script) : Type 0 where
  pub few : s.due ≤ length s.estimates
  pub few_probes : s.due_probes ≤ length s.probes
  pub polled_due : s.polled ≤ s.due
  pub given_due : s.given ≤ s.due_probes

-- where probes may be sent, the first cluster that is due and was not given
abbrev pub next_probe : Script → ℕ → Bool → Option ProbeClusterConfig
next_probe s now can_probe =
    if can_probe then (if nat_lt s.given (due_at s.probes s.due_probes now) then option_map (λ p. p.1) (slice_get s.probes s.given) else None) else None

-- a timeout makes due what is scripted up to its moment
abbrev pub after_now : Script → ℕ → Script
after_now s now = record s { due = due_at s.estimates s.due now; due_probes = due_at s.probes s.due_probes now }

abbrev pub after_giving : Script → ℕ → Bool → Script
after_giving s now can_probe =
    record (after_now s now) { given = if can_probe then (if nat_lt s.given (due_at s.probes s.due_probes now) then s.given + 1 else s.given) else s.given }

-- the first estimate that is due and was not polled
abbrev pub next_estimate : Script → Option ℕ
next_estimate s = if nat_lt s.polled s.due then option_map (λ e. e.1) (slice_get s.estimates s.polled) else None

abbrev pub after_polling : Script → Script
after_polling s = if nat_lt s.polled s.due then record s { polled = s.polled + 1 } else s

-- the last estimate that is due
abbrev pub last_due : Script → Option ℕ
last_due s = if s.due == 0 then None else option_map (λ e. e.1) (slice_get s.estimates (s.due - 1))

abbrev pub pending_count : Script → ℕ
pending_count s = s.due - s.polled

-- the moment of the first that is not due
abbrev pub next_moment : Script → Option ℕ
next_moment s =
    earlier_of (option_map (λ e. e.0) (slice_get s.estimates s.due)) (option_map (λ p. p.0) (slice_get s.probes s.due_probes))
