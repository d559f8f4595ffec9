-- Missing numbers in entries of a NACK (RFC 4585, section 6.2.1).
use Rattle.std.specs.Prelude.{◌≡◌, ℕ, ◌+◌, ◌-◌, ◌*◌, ◌^◌, ◌%◌, ◌<◌, ◌≤◌, nat_le, if◌then◌else◌, map, List, [], ◌∷◌, Option, Some, None, bit_or}
use Rattle.std.specs.List.{flat_map}
use Rattle.rtp_base.specs.NackEntry.{named_below}
use Rattle.rtp_base.specs.declared.nack_entry.NackEntry.{NackEntry}
use Rattle.repair_core.specs.declared.missing.Missing.{Missing}
use Rattle.repair_core.specs.Rounds.{Heard, due}

-- the entry of a number and of those of the next 16 that its bits name
abbrev pub entry_of : Missing → NackEntry
entry_of m = record { pid = m.first % 65536; blp = m.bits }

abbrev pub alone : ℕ → Missing
alone k = record { first = k; bits = 0 }

abbrev pub with_bit : Missing → ℕ → Missing
with_bit m k = record { first = m.first; bits = bit_or m.bits (2 ^ (k - m.first - 1)) }

-- the entries of rising numbers, after an entry that is begun: each number goes into the entry that is begun, if it is at
-- most 16 above its first, else it begins the next
abbrev pub packed : Option Missing → List ℕ → List NackEntry
packed None [] = []
packed (Some m) [] = entry_of m ∷ []
packed None (k ∷ ks) = packed (Some (alone k)) ks
packed (Some m) (k ∷ ks) = if nat_le k (m.first + 16) then packed (Some (with_bit m k)) ks else entry_of m ∷ packed (Some (alone k)) ks

-- of numbers from low on and below k, n - before entries were packed, and one is begun
abbrev pub IsPacking : ℕ → ℕ → ℕ → Option Missing → ℕ → Type 0
IsPacking low before k None n = n ≡ before
IsPacking low before k (Some m) n = (m.first < k) × (before ≤ n) × (low + 17 * (n - before) ≤ m.first)

-- the numbers that an entry names, modulo 2^16, from the PID on
abbrev pub names : NackEntry → List ℕ
names e = map (λ n. n % 65536) (e.pid ∷ named_below e.pid e.blp 16)

-- the entries of a round name exactly the numbers that are due, modulo 2^16, in order
abbrev pub RoundsNameTheDue : Type 0
RoundsNameTheDue = (past : Heard) (now wait : ℕ) → flat_map names (packed None (due past now wait)) ≡ map (λ k. k % 65536) (due past now wait)
