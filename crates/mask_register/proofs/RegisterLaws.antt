-- What a register remembers after a number came, and after a round.
use Rattle.std.proofs.Common.{◌≡◌, ℕ, ◌+◌, Bool, true, false, cond, List, [], ◌∷◌, ◌++◌, sym, ◌∙◌, subst, arith, Option, Some, None}
use Rattle.std.specs.Bool.{OnTrue}
use Rattle.repair_core.specs.Fresh.{with_number}
use Rattle.repair_core.specs.Rounds.{Heard, came, round, taken}
use Rattle.repair_core.specs.Entries.{IsPacking}
use Rattle.repair_core.specs.declared.missing.Missing.{Missing}
use Rattle.mask_register.specs.declared.asks.Ask.{Ask}
use Rattle.mask_register.specs.declared.window.Window.{Window}
use Rattle.mask_register.specs.declared.register.MaskRegister.{MaskRegister}
use Rattle.mask_register.specs.Window.{accepts_number, Holds, Takes}
use Rattle.mask_register.specs.MaskRegister.{IsKept, HoldsAsks, Remembers, rows_after, window_of}
use Rattle.mask_register.proofs.WindowLaws.{accepts_is, takes_holds, Sees, sees}
use Rattle.mask_register.proofs.AskLaws.{asks_came, asks_round, IsWhole}

pub kept_some : (r : MaskRegister) (past : Heard) (w : Window) → r.window ≡ Some w → Remembers r past → IsKept (Some w) (taken past)
kept_some r past w is m = subst (λ (o : Option Window). IsKept o (taken past)) is m.kept

pub sees_past : (r : MaskRegister) (past : Heard) (w : Window) → r.window ≡ Some w → Remembers r past → Sees w (taken past)
sees_past r past w is m = sees w (taken past) (kept_some r past w is m)

kept_more : (l : List ℕ) (w new : Window) (n : ℕ) → IsKept (Some w) l → accepts_number w n ≡ true → Takes w new n → IsKept (Some new) (with_number l n)
kept_more [] w new n h a t = absurd h
kept_more (x ∷ xs) w new n h a t =
    subst (λ (b : Bool). IsKept (Some new) (cond b (x ∷ (xs ++ n ∷ [])) (x ∷ xs))) (sym a ∙ accepts_is w x n xs h) (takes_holds w new x n (x ∷ xs) h t)

kept_first : (l : List ℕ) (new : Window) (n : ℕ) → IsKept None l → Holds new n (n ∷ []) → IsKept (Some new) (with_number l n)
kept_first [] new n h t = t
kept_first (x ∷ xs) new n h t = absurd h

pub came_more : (r : MaskRegister) (past : Heard) (w new : Window) (n : ℕ) → r.window ≡ Some w → Remembers r past → accepts_number w n ≡ true → Takes w new n → Remembers (record { window = Some new; asks = r.asks }) (came past n)
came_more r past w new n is m a t = record {
  kept = kept_more (taken past) w new n (kept_some r past w is m) a t;
  asks = asks_came r.asks past n m.asks;
}

pub came_first : (r : MaskRegister) (past : Heard) (new : Window) (n : ℕ) → r.window ≡ None → Remembers r past → Holds new n (n ∷ []) → Remembers (record { window = Some new; asks = r.asks }) (came past n)
came_first r past new n is m t = record {
  kept = kept_first (taken past) new n (subst (λ (o : Option Window). IsKept o (taken past)) is m.kept) t;
  asks = asks_came r.asks past n m.asks;
}

pub round_kept : (r new : MaskRegister) (past : Heard) (w : Window) (now wait : ℕ) → r.window ≡ Some w → Remembers r past → new.window ≡ r.window → new.asks ≡ rows_after w r.asks now wait (window_of w) → Remembers new (round past now wait)
round_kept r new past w now wait is m same rows = record {
  kept = subst (λ (o : Option Window). IsKept o (taken past)) (sym same) m.kept;
  asks = subst (λ (a : List Ask). HoldsAsks a (round past now wait)) (sym rows) (asks_round w r.asks past now wait (sees_past r past w is m) m.asks);
}

pub whole_when : (b : Bool) (w : Window) → OnTrue b (IsWhole w) → b ≡ true → IsWhole w
whole_when true w h e = h
whole_when false w h e = absurd (let no : false ≡ true = e in cc)

pub packing_more : (low before k n : ℕ) (o : Option Missing) → IsPacking low before k o n → IsPacking low before (k + 1) o n
packing_more low before k n None h = h
packing_more low before k n (Some m) h = (omega arith, h.1, h.2)
