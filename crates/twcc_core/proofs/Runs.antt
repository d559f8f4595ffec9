-- Rows in runs.
use Rattle.std.proofs.Common.{◌≡◌, ℕ, zero, suc, ◌+◌, ◌<◌, Bool, List, [], ◌∷◌, ◌++◌, length, get_or, set, replicate, refl, sym, ap, ◌∙◌, append_assoc, arith, length-append}
use Rattle.std.proofs.Math.Dec.{eqb}
use Rattle.std.specs.Cmp.Lexicographic.{pointwise}
use Rattle.std.proofs.lemmas.Bool.{ne_eqb}
use Rattle.std.proofs.lemmas.List.{append-nil, length-replicate}
use Rattle.twcc_core.specs.declared.status.PacketStatus.{PacketStatus}
use Rattle.twcc_core.specs.declared.status.PacketStatus.TheVariants.{NotReceived}
use Rattle.twcc_core.specs.declared.status_list.Run.{Run}
use Rattle.twcc_core.specs.declared.status_list.Run.TheVariants.{Gap, Arrival}
use Rattle.twcc_core.specs.Runs.{rows_of_run, rows_of}

-- a longer run in place of the last
pub set_last : (runs : List Run) (i : ℕ) (last longer : Run) (row : PacketStatus) → i + 1 ≡ length runs → last ≡ get_or runs i last
    → rows_of_run longer ≡ rows_of_run last ++ row ∷ [] → rows_of (set runs i longer) ≡ rows_of runs ++ row ∷ []
set_last [] i last longer row e is j = absurd (omega (arith, e))
set_last (r ∷ []) zero last longer row e is j =
    append-nil (rows_of_run longer) ∙ j ∙ ap (λ (t : List PacketStatus). t ++ row ∷ []) (ap rows_of_run is ∙ sym (append-nil (rows_of_run r)))
set_last (r ∷ s ∷ rs) zero last longer row e is j = absurd (omega (arith, e))
set_last (r ∷ rs) (suc i) last longer row e is j =
    ap (λ (t : List PacketStatus). rows_of_run r ++ t) (set_last rs i last longer row (omega (arith, e)) is j) ∙ sym (append_assoc (rows_of_run r) (rows_of rs) (row ∷ []))

-- runs stand for some rows
some_rows : (run : Run) → 0 < length (rows_of_run run)
some_rows (Gap more) = omega (arith, length-replicate {A = PacketStatus} (suc more) NotReceived)
some_rows (Arrival delta) = omega arith

both_some : (a b : ℕ) → 0 < a → 0 < b → eqb a 0 ≡ eqb b 0
both_some a b p q = ne_eqb a 0 (λ e. absurd (omega (arith, e, p))) ∙ sym (ne_eqb b 0 (λ e. absurd (omega (arith, e, q))))

pub empty_is : (gap : ℕ) (runs : List Run) → gap ≡ 0 → eqb (length runs) 0 ≡ eqb (length (replicate gap NotReceived ++ rows_of runs)) 0
empty_is gap [] e = rw e refl
empty_is gap (run ∷ runs) e =
    rw e (both_some (length (run ∷ runs)) (length (rows_of_run run ++ rows_of runs)) (omega arith) (omega (arith, some_rows run, length-append (rows_of_run run) (rows_of runs))))

-- the rows that are left are the same exactly where all are
pub record IsCompared (E : PacketStatus → PacketStatus → Bool) (left right : List PacketStatus) (all : Bool) : Type 0 where
  pub same : pointwise E left right ≡ all
