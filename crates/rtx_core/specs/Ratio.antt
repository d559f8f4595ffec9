-- How much of what a stream sends is sent again.
use Rattle.std.specs.Prelude.{ℕ, ◌+◌, ◌-◌, ◌*◌, nat_lt, nat_le, Bool, false, if◌then◌else◌, List, [], ◌∷◌, ◌++◌, length, take}
use Rattle.rtx_core.specs.declared.byte_log.TheConstants.{COUNTING_AGE}
use Rattle.rtx_core.specs.declared.ratio_cap.TheConstants.{READING_AGE}

-- the bytes of payloads that were sent at moments
abbrev pub bytes_in : List (ℕ × ℕ) → ℕ
bytes_in [] = 0
bytes_in (e ∷ es) = e.1 + bytes_in es

-- what was sent more than 1 s before a moment counts no more at it
abbrev pub is_old : ℕ → ℕ → Bool
is_old now moment = nat_lt (COUNTING_AGE * 1000000000) (now - moment)

-- what counts at a moment: all from the first on that does
abbrev pub recent : ℕ → List (ℕ × ℕ) → List (ℕ × ℕ)
recent now [] = []
recent now (e ∷ es) = if is_old now e.0 then recent now es else e ∷ es

abbrev pub without_last : List (ℕ × ℕ) → List (ℕ × ℕ)
without_last es = take (length es - 1) es

-- how many hundredths of what is sent may be repairs; the bytes of first sendings and those of repairs, with their
-- moments; and when it was looked last whether it is more, and whether it was
pub record CapRecord : Type 0 where
  pub hundredths : ℕ
  pub sent : List (ℕ × ℕ)
  pub resent : List (ℕ × ℕ)
  pub read_at : ℕ
  pub met : Bool

-- nothing was sent
abbrev pub uncounted : ℕ → CapRecord
uncounted hundredths = record { hundredths = hundredths; sent = []; resent = []; read_at = 0; met = false }

-- more than so many hundredths of these bytes are those of repairs
abbrev pub is_above : ℕ → (sent resent : ℕ) → Bool
is_above hundredths sent resent = nat_lt (hundredths * (resent + sent)) (resent * 100)

-- more than the cap, of what was sent in the last second
abbrev pub is_above_at : ℕ → CapRecord → Bool
is_above_at now c = is_above c.hundredths (bytes_in (recent now c.sent)) (bytes_in (recent now c.resent))

-- it is looked again 50 ms after it was last
abbrev pub is_reading_due : ℕ → CapRecord → Bool
is_reading_due now c = nat_le (READING_AGE * 1000000) (now - c.read_at)

abbrev pub after_reading : ℕ → CapRecord → CapRecord
after_reading now c = if is_reading_due now c then record c { read_at = now; met = is_above_at now c } else c

-- a first sending, and a repair, of so many bytes
abbrev pub with_pushed : ℕ → ℕ → CapRecord → CapRecord
with_pushed now bytes c = record c { sent = c.sent ++ (now, bytes) ∷ [] }

abbrev pub without_pushed : CapRecord → CapRecord
without_pushed c = record c { sent = without_last c.sent }

abbrev pub forgetting : ℕ → CapRecord → CapRecord
forgetting now c = record c { sent = recent now c.sent }

abbrev pub with_sent : ℕ → ℕ → CapRecord → CapRecord
with_sent now bytes c = record c { sent = recent now (c.sent ++ (now, bytes) ∷ []) }

abbrev pub with_resent : ℕ → ℕ → CapRecord → CapRecord
with_resent now bytes c = record c { resent = recent now (c.resent ++ (now, bytes) ∷ []) }

-- another cap: it was not looked yet whether it is met
abbrev pub with_hundredths : ℕ → CapRecord → CapRecord
with_hundredths hundredths c = record c { hundredths = hundredths; read_at = 0; met = false }
