-- The loops over rows.
use Rattle.std.proofs.Common.{◌≡◌, ℕ, zero, suc, ◌+◌, ◌-◌, ◌^◌, ◌<◌, ◌≤◌, true, false, cond, eqb, leb, min, List, [], ◌∷◌, ◌++◌, length, take, drop, drop-drop, Option, Some, refl, sym, ap, ◌∙◌, append_assoc, arith, length-append}
use Rattle.std.specs.List.{flat_map, prefix_len}
use Rattle.std.proofs.lemmas.List.{append-nil}
use Rattle.std.proofs.lemmas.List.Concat.{flat_map-append}
use Rattle.std.proofs.lemmas.Bool.{leb-true}
use Rattle.rtp_base.specs.Wire.{Puts}
use Rattle.twcc_core.specs.declared.status.PacketStatus.{PacketStatus}
use Rattle.twcc_core.specs.declared.size.Size.{Size}
use Rattle.twcc_core.specs.Statuses.{symbol_of, delta_text}
use Rattle.twcc_core.specs.Chunks.{symbol_at, run_of, told_by}
use Rattle.twcc_core.specs.Sizes.{IsCounted, after_row, bytes_of}
use Rattle.twcc_core.specs.Reports.{size_of}
use Rattle.twcc_core.specs.Times.{moments_from}
use Rattle.twcc_core.proofs.Rows.{behind_more}
use Rattle.twcc_core.proofs.ReadBack.{run_is, run_within}
use Rattle.twcc_core.proofs.Sizes.{next_counted, counted_size}
use Rattle.twcc_core.proofs.Receiving.{counted_bounds}

-- ---- the first run

-- so many rows at the front have the symbol of the first, and these come behind them
pub record IsFirstRun (run symbol : ℕ) (rows rest : List PacketStatus) : Type 0 where
  pub few : run ≤ 8191
  pub behind : rest ≡ drop run rows
  pub count : run_of rows ≡ run + prefix_len (λ row. eqb (symbol_of row) symbol) (take (8191 - run) rest)

pub first_starts : (symbol : ℕ) (rows : List PacketStatus) → symbol ≡ symbol_at rows 0 → IsFirstRun 0 symbol rows rows
first_starts symbol rows e = record { few = omega arith; behind = refl; count = rw e (omega (arith, run_is rows)) }

pub first_more : (run symbol : ℕ) (rows rest after : List PacketStatus) (row : PacketStatus) → run < 8191 → rest ≡ row ∷ after → eqb (symbol_of row) symbol ≡ true
    → IsFirstRun run symbol rows rest → IsFirstRun (run + 1) symbol rows after
first_more run symbol rows rest after row lt e same h =
    let k : 8191 - run ≡ suc (8191 - (run + 1)) = omega (arith, lt) in
    let count = rw (e, k, same) at h.count in
    record { few = omega (arith, lt); behind = ap (drop 1) (sym e ∙ h.behind) ∙ drop-drop 1 run rows; count = omega (arith, count) }

pub first_other : (run symbol : ℕ) (rows rest after : List PacketStatus) (row : PacketStatus) → run < 8191 → rest ≡ row ∷ after → eqb (symbol_of row) symbol ≡ false
    → IsFirstRun run symbol rows rest → run ≡ run_of rows
first_other run symbol rows rest after row lt e same h =
    let k : 8191 - run ≡ suc (8191 - (run + 1)) = omega (arith, lt) in
    let count = rw (e, k, same) at h.count in
    omega (arith, count)

none_long : (symbol n : ℕ) → prefix_len (λ row. eqb (symbol_of row) symbol) (take n []) ≡ 0
none_long symbol zero = refl
none_long symbol (suc n) = refl

pub first_last : (run symbol : ℕ) (rows rest : List PacketStatus) → rest ≡ [] → IsFirstRun run symbol rows rest → run ≡ run_of rows
first_last run symbol rows rest e h = let count = rw e at h.count in omega (arith, count, none_long symbol (8191 - run))

pub first_full : (run symbol : ℕ) (rows rest : List PacketStatus) → 8191 ≤ run → IsFirstRun run symbol rows rest → run ≡ run_of rows
first_full run symbol rows rest le h =
    let k : 8191 - run ≡ 0 = omega (arith, le) in
    let count = rw k at h.count in
    omega (arith, count)

-- ---- the first vector

pub symbol_behind : (i : ℕ) (rows : List PacketStatus) → symbol_at (drop i rows) 0 ≡ symbol_at rows i
symbol_behind zero rows = refl
symbol_behind (suc i) [] = refl
symbol_behind (suc i) (row ∷ rows) = symbol_behind i rows

pub next_behind : (i : ℕ) (rows rest after : List PacketStatus) → rest ≡ drop i rows → after ≡ drop 1 rest → after ≡ drop (i + 1) rows
next_behind i rows rest after e d = d ∙ ap (drop 1) e ∙ drop-drop 1 i rows

-- a chunk tells some rows
pub told_within : (rows : List PacketStatus) → 0 < length rows → (0 < told_by rows) × (told_by rows ≤ length rows)
unfolding told_by
told_within rows some =
    let w = (run_within rows).0 in
    elim (leb 7 (run_of rows)) as (λ b. (leb 7 (run_of rows) ≡ b) → (0 < cond b (run_of rows) (min 7 (length rows))) × (cond b (run_of rows) (min 7 (length rows)) ≤ length rows)) [
      | true ↦ λ e. (omega (arith, leb-true 7 (run_of rows) e), w)
      | false ↦ λ e. (omega (arith, some), omega arith)
    ] refl

-- ---- deltas

-- the deltas of the rows before these are put
pub record IsDeltas (all rest : List PacketStatus) (old : List ℕ) (at : ℕ) (now : List ℕ) (end : ℕ) : Type 0 where
  pub done : List PacketStatus
  pub split : all ≡ done ++ rest
  pub put : Puts old at (flat_map delta_text done) now (Some end)
  pub behind : drop end now ≡ drop end old
  pub same : length now ≡ length old

one_behind : (done : List PacketStatus) (row : PacketStatus) → flat_map delta_text (done ++ row ∷ []) ≡ flat_map delta_text done ++ delta_text row
one_behind done row = flat_map-append delta_text done (row ∷ []) ∙ ap (λ (t : List ℕ). flat_map delta_text done ++ t) (append-nil (delta_text row))

pub deltas_more : (all rest after : List PacketStatus) (row : PacketStatus) (old : List ℕ) (at : ℕ) (now new : List ℕ) (end end' : ℕ) → rest ≡ row ∷ after → length new ≡ length now
    → Puts now end (delta_text row) new (Some end') → drop end' new ≡ drop end' now
    → IsDeltas all rest old at now end → IsDeltas all after old at new end'
deltas_more all rest after row old at now new end end' e same p b h =
    record {
      done = h.done ++ row ∷ [];
      split = h.split ∙ ap (λ (t : List PacketStatus). h.done ++ t) e ∙ sym (append_assoc h.done (row ∷ []) after);
      put = rw (one_behind h.done row) (omega (arith, p.0, h.put.0, length-append (flat_map delta_text h.done) (delta_text row)), p.1 ∙ rw h.put.1 (append_assoc (take at old) (flat_map delta_text h.done) (delta_text row)), p.2);
      behind = behind_more old now new end _ end' p.0 h.behind b;
      same = same ∙ h.same;
    }

-- ---- the size

-- the rows before these are counted
pub record IsSized (all rest : List PacketStatus) (size : Size) : Type 0 where
  pub done : List PacketStatus
  pub split : all ≡ done ++ rest
  pub counted : IsCounted size done

pub sized_more : (all rest after : List PacketStatus) (row : PacketStatus) (size new : Size) → rest ≡ row ∷ after → new ≡ after_row size row → IsSized all rest size → IsSized all after new
sized_more all rest after row size new e n h =
    record {
      done = h.done ++ row ∷ [];
      split = h.split ∙ ap (λ (t : List PacketStatus). h.done ++ t) e ∙ sym (append_assoc h.done (row ∷ []) after);
      counted = rw n (next_counted size row h.done h.counted);
    }

pub sized_bounds : (all rest : List PacketStatus) (size : Size) → length all < 65536 → IsSized all rest size → (size.chunks < 2 ^ 32) × (size.deltas < 2 ^ 32)
sized_bounds all rest size few h =
    counted_bounds size h.done h.counted (omega (arith, few, ap length h.split, length-append h.done rest))

pub sized_ends : (all rest : List PacketStatus) (size : Size) → rest ≡ [] → IsSized all rest size → bytes_of size ≡ size_of all
sized_ends all rest size e h =
    counted_size size h.done h.counted ∙ sym (ap size_of (h.split ∙ ap (λ (t : List PacketStatus). h.done ++ t) e ∙ append-nil h.done))

-- ---- moments

-- the moments so far stand before those of these rows
pub record IsTimed (now : List (Option ℕ)) (last : ℕ) (rest : List PacketStatus) (all : List (Option ℕ)) : Type 0 where
  pub so_far : now ++ moments_from last rest ≡ all
