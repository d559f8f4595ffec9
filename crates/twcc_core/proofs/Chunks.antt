-- The loop that writes chunks.
use Rattle.std.proofs.Common.{◌≡◌, ℕ, zero, suc, ◌+◌, ◌-◌, ◌*◌, ◌<◌, ◌≤◌, List, [], ◌∷◌, ◌++◌, length, take, drop, min, leb, true, false, Some, None, refl, sym, ap, ◌∙◌, append_assoc, arith, length-append, length-drop}
use Rattle.std.specs.Int.{w16, to_be_bytes}
use Rattle.std.proofs.lemmas.List.{append-nil}
use Rattle.std.proofs.lemmas.Bool.{le-leb, lt-leb}
use Rattle.std.proofs.lemmas.List.Concat.{flat_map-append}
use Rattle.twcc_core.specs.declared.status.PacketStatus.{PacketStatus}
use Rattle.rtp_base.specs.Wire.{halves, Puts}
use Rattle.twcc_core.specs.Chunks.{symbol_at, run_of, vector_of, chunk_of, told_by, chunks_within, chunks_of}
use Rattle.twcc_core.proofs.Rows.{behind_more}

-- the chunks put so far, and those of the rest
pub record IsPut (all rest : List PacketStatus) (old : List ℕ) (at : ℕ) (now : List ℕ) (end : ℕ) : Type 0 where
  pub done : List ℕ
  pub fuel : ℕ
  pub enough : length rest ≤ fuel
  pub split : chunks_of all ≡ done ++ chunks_within fuel rest
  pub put : Puts old at (halves done) now (Some end)
  pub behind : drop end now ≡ drop end old
  pub same : length now ≡ length old

pub put_starts : (all : List PacketStatus) (old : List ℕ) (at : ℕ) → at ≤ length old → IsPut all all old at old at
unfolding chunks_of
put_starts all old at le =
    record { done = []; fuel = length all; enough = omega arith; split = refl; put = (omega arith, sym (append-nil (take at old)), le); behind = refl; same = refl }

pub one_chunk : (fuel : ℕ) (rest : List PacketStatus) → 0 < length rest → length rest ≤ fuel → chunks_within fuel rest ≡ chunk_of rest ∷ chunks_within (fuel - 1) (drop (told_by rest) rest)
one_chunk fuel [] some enough = absurd (omega arith)
one_chunk zero (row ∷ rest) some enough = absurd (omega arith)
one_chunk (suc fuel) (row ∷ rest) some enough = let k : suc fuel - 1 ≡ fuel = omega arith in rw k refl

halves_more : (done : List ℕ) (c : ℕ) → halves (done ++ c ∷ []) ≡ halves done ++ to_be_bytes w16 c
halves_more done c = flat_map-append (to_be_bytes w16) done (c ∷ []) ∙ ap (λ (t : List ℕ). halves done ++ t) (append-nil (to_be_bytes w16 c))

halves_len : (cs : List ℕ) → length (halves cs) ≡ length cs * 2
halves_len [] = omega arith
halves_len (c ∷ cs) = omega (arith, length-append (to_be_bytes w16 c) (halves cs), halves_len cs)

pub put_more : (all rest after : List PacketStatus) (old : List ℕ) (at : ℕ) (now new : List ℕ) (end end' chunk told : ℕ) → 0 < length rest → chunk ≡ chunk_of rest → told ≡ told_by rest → 0 < told → told ≤ length rest → after ≡ drop told rest → length new ≡ length now
    → Puts now end (to_be_bytes w16 chunk) new (Some end') → drop end' new ≡ drop end' now
    → IsPut all rest old at now end → IsPut all after old at new end'
put_more all rest after old at now new end end' chunk told some c t pos le d same p b h =
    let one = one_chunk h.fuel rest some h.enough in
    let step : chunks_within h.fuel rest ≡ chunk ∷ chunks_within (h.fuel - 1) after = rw (d, c, t) one in
    let e = halves_more h.done chunk in
    let len : length after ≤ h.fuel - 1 = rw d (omega (arith, length-drop told rest, h.enough)) in
    record {
      done = h.done ++ chunk ∷ [];
      fuel = h.fuel - 1;
      enough = len;
      split = h.split ∙ ap (λ (x : List ℕ). h.done ++ x) step ∙ sym (append_assoc h.done (chunk ∷ []) (chunks_within (h.fuel - 1) after));
      put = rw e (omega (arith, p.0, h.put.0, length-append (halves h.done) (to_be_bytes w16 chunk)), p.1 ∙ rw h.put.1 (append_assoc (take at old) (halves h.done) (to_be_bytes w16 chunk)), p.2);
      behind = behind_more old now new end _ end' p.0 h.behind b;
      same = same ∙ h.same;
    }

pub put_fails : (all rest : List PacketStatus) (old : List ℕ) (at : ℕ) (now new : List ℕ) (end chunk : ℕ) → 0 < length rest
    → Puts now end (to_be_bytes w16 chunk) new None
    → IsPut all rest old at now end → Puts old at (halves (chunks_of all)) new None
put_fails all rest old at now new end chunk some p h =
    let one = one_chunk h.fuel rest some h.enough in
    let total = ap length (h.split ∙ ap (λ (x : List ℕ). h.done ++ x) one) in
    omega (arith, p, h.put.0, h.same, halves_len (chunks_of all), halves_len h.done, total, length-append h.done (chunk_of rest ∷ chunks_within (h.fuel - 1) (drop (told_by rest) rest)))

-- which chunk is the first
pub run_first : (rows : List PacketStatus) → 7 ≤ run_of rows → (chunk_of rows ≡ symbol_at rows 0 * 8192 + run_of rows) × (told_by rows ≡ run_of rows)
unfolding chunk_of told_by
run_first rows le = let t : leb 7 (run_of rows) ≡ true = le-leb _ _ le in (rw t refl, rw t refl)

pub vector_first : (rows : List PacketStatus) → run_of rows < 7 → (chunk_of rows ≡ vector_of rows) × (told_by rows ≡ min 7 (length rows))
unfolding chunk_of told_by
vector_first rows lt = let t : leb 7 (run_of rows) ≡ false = lt-leb _ _ lt in (rw t refl, rw t refl)
