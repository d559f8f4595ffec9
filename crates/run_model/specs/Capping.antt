-- When the repairs of a stream are capped, read off the events, and how a stream finds it out.
use Rattle.std.specs.Prelude.{◌≡◌, ◌⊎◌, ◌≤◌, ◌+◌, ◌-◌, ◌*◌, ℕ, Bool, true, false, nat_le, if◌then◌else◌, length, List, [], ◌∷◌, ◌++◌, Option, Some, None}
use Rattle.std.specs.List.{fold}
use Rattle.rtx_core.specs.Ratio.{bytes_in, recent, is_above}
use Rattle.rtp_wire.specs.declared.header.TheConstants.{ORIGINAL_NUMBER_LEN}
use Rattle.rtx_core.specs.declared.ratio_cap.TheConstants.{READING_AGE}
use Rattle.run_model.specs.Events.{Event, wrote, ticked, called, got, sealed, sealed_items, opened, opened_items, yielded, Outgoing}
use Rattle.run_model.specs.Listing.{IsIn}
use Rattle.run_model.specs.Sending.{is_sending, is_repair_on}

-- of the bytes that were logged in the last second more than the cap, which is in hundredths, are those of repairs
abbrev pub is_met : Option ℕ → List (ℕ × ℕ) → List (ℕ × ℕ) → ℕ → Bool
is_met None sent resent now = false
is_met (Some cap) sent resent now = is_above cap (bytes_in (recent now sent)) (bytes_in (recent now resent))

-- the moment of the last step, the payload bytes of the first sendings and of the repairs, these without the original number,
-- each with its moment, and the ticks at whose start the cap was met
pub record Logs : Type 0 where
  pub now : ℕ
  pub sent : List (ℕ × ℕ)
  pub resent : List (ℕ × ℕ)
  pub met : List ℕ

abbrev pub log_step : Outgoing → Logs → Event → Logs
log_step L l (wrote time w) = record l { now = time }
log_step L l (called time) = record l { now = time }
log_step L l (got time kind bytes) = record l { now = time }
log_step L l (ticked time) = record l { now = time; met = if is_met L.cap l.sent l.resent time then l.met ++ time ∷ [] else l.met }
log_step L l (sealed ssrc n p bytes) = record l {
  sent = if is_sending L.ssrc ssrc p then l.sent ++ (l.now, length p.payload) ∷ [] else l.sent;
  resent = if is_repair_on L ssrc p then l.resent ++ (l.now, length p.payload - ORIGINAL_NUMBER_LEN) ∷ [] else l.resent;
}
log_step L l (sealed_items index items) = l
log_step L l (opened ssrc n p) = l
log_step L l (opened_items index items) = l
log_step L l (yielded packet) = l

abbrev pub no_logs : Logs
no_logs = record { now = 0; sent = []; resent = []; met = [] }

abbrev pub logs : Outgoing → List Event → Logs
logs L events = fold (log_step L) no_logs events

-- the stream is capped at a tick: at its start, or at that of an earlier tick at most 50 ms before it, the cap was met
abbrev pub IsCapped : Outgoing → List Event → ℕ → Type 0
IsCapped L events time = (is_met L.cap (logs L events).sent (logs L events).resent time ≡ true) ⊎ ((u : ℕ) × IsIn u (logs L events).met × (time ≤ u + READING_AGE * 1000000))

-- the moment of the last reading of the cap, and whether it was met then
pub record Reading : Type 0 where
  pub moment : ℕ
  pub met : Bool

-- a reading stands for 50 ms
abbrev pub reading_after : Option ℕ → List (ℕ × ℕ) → List (ℕ × ℕ) → Reading → ℕ → Reading
reading_after cap sent resent r now = if nat_le (READING_AGE * 1000000) (now - r.moment) then record { moment = now; met = is_met cap sent resent now } else r

-- the cap is read at a tick only where there is something to resend
abbrev pub reading_for : List ℕ → Reading → Reading → Reading
reading_for [] r new = r
reading_for (n ∷ ns) r new = new
