-- The numbers that an entry of a NACK names (RFC 4585 section 6.2.1).
use Rattle.std.specs.Prelude.{ℕ, zero, suc, ◌+◌, ◌/◌, ◌%◌, ◌^◌, ◌==◌, List, [], ◌∷◌, ◌++◌, Option, if◌then◌else◌}
use Rattle.rtp_base.specs.Widen.{widen16}
use Rattle.rtp_base.specs.declared.nack_entry.NackEntry.{NackEntry}

-- what the lowest n bits name: bit i names the first number + i + 1
unfoldable pub named_below : ℕ → ℕ → ℕ → List ℕ
named_below first bits zero = []
named_below first bits (suc i) = named_below first bits i ++ (if bits / 2 ^ i % 2 == 1 then (first + i + 1) ∷ [] else [])

-- the PID widened by the last number, and what the bits name
abbrev pub named_by : Option ℕ → NackEntry → List ℕ
named_by last e = widen16 last e.pid ∷ named_below (widen16 last e.pid) e.blp 16
