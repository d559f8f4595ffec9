-- The loop that reads the blocks of an extended report.
use Rattle.std.proofs.Common.{◌≡◌, ℕ, suc, ◌+◌, ◌-◌, ◌<◌, List, [], ◌∷◌, ◌++◌, length, Option, Some, None, refl, sym, ap, ◌∙◌, append_assoc, arith, length-append}
use Rattle.std.specs.Option.{option_map, option_and_then}
use Rattle.rtcp_items.specs.declared.extended.ReportBlock.{ReportBlock}
use Rattle.rtcp_wire.specs.Extended.{with_blocks, kept, block_at, blocks_within, blocks_of}

abbrev pub with_front : List ReportBlock → Option (List ReportBlock) → Option (List ReportBlock)
with_front front o = option_map (λ later. front ++ later) o

-- the blocks read so far, and those of the rest
pub record IsRead (now : List ReportBlock) (left : ℕ) (rest : List ℕ) (all : Option (List ReportBlock)) : Type 0 where
  pub so_far : with_front now (blocks_within left (31 - length now) rest) ≡ all

front_none : (o : Option (List ReportBlock)) → with_front [] o ≡ o
front_none None = refl
front_none (Some x) = refl

regroup : (now new : List ReportBlock) (o : Option (List ReportBlock)) → with_front (now ++ new) o ≡ with_front now (option_map (λ later. new ++ later) o)
regroup now new None = refl
regroup now new (Some x) = ap (λ (t : List ReportBlock). Some t) (append_assoc now new x)

-- the blocks at the front and those behind them, where there is room for one more at least
abbrev continued : ℕ → ℕ → Option (List ReportBlock × List ℕ) → Option (List ReportBlock)
continued n room o = option_and_then (λ x. option_map (λ later. x.0 ++ later) (blocks_within n (suc room - length x.0) x.1)) o

one_more : (n room : ℕ) (now new : List ReportBlock) (o : Option (List ReportBlock × List ℕ)) (after : List ℕ) → 31 - length now ≡ suc room → option_map (with_blocks now) o ≡ Some (kept new after)
    → with_front now (continued n room o) ≡ with_front new (blocks_within n (31 - length new) after)
one_more n room now new None after r e = absurd cc
one_more n room now new (Some x) after r e =
    let both : with_blocks now x ≡ kept new after = cc in
    let a : now ++ x.0 ≡ new = ap (λ (t : List ReportBlock × List ℕ). t.0) both in
    let b : x.1 ≡ after = ap (λ (t : List ReportBlock × List ℕ). t.1) both in
    let c : 31 - length (now ++ x.0) ≡ suc room - length x.0 = omega (arith, r, length-append now x.0) in
    rw (← a, ← b, c) (sym (regroup now x.0 (blocks_within n (suc room - length x.0) x.1)))

unrolled : (n room : ℕ) (rest : List ℕ) → 0 < length rest → blocks_within (suc n) (suc room) rest ≡ continued n room (block_at rest)
unrolled n room [] lt = absurd (omega arith)
unrolled n room (b ∷ rest) lt = refl

pub read_starts : (bytes : List ℕ) → IsRead [] (length bytes - 0) bytes (blocks_of bytes)
unfolding blocks_of
read_starts bytes =
    let k : length bytes - 0 ≡ length bytes = omega arith in
    record { so_far = rw k (front_none (blocks_within (length bytes) 31 bytes)) }

pub read_more : (now new : List ReportBlock) (len i : ℕ) (rest after : List ℕ) (all : Option (List ReportBlock)) → i < len → 0 < length rest → length now < 31
    → option_map (with_blocks now) (block_at rest) ≡ Some (kept new after) → IsRead now (len - i) rest all → IsRead new (len - (i + 1)) after all
read_more now new len i rest after all lt some few e h =
    let k : len - i ≡ suc (len - (i + 1)) = omega arith in
    let room : 31 - length now ≡ suc (30 - length now) = omega arith in
    let so_far = rw (k, room, unrolled (len - (i + 1)) (30 - length now) rest some) at h.so_far in
    record { so_far = sym (one_more (len - (i + 1)) (30 - length now) now new (block_at rest) after room e) ∙ so_far }
