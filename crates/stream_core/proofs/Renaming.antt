-- A value of a table comes to stand under another key.
use Rattle.std.proofs.Common.{◌≡◌, ℕ, zero, suc, Bool, true, false, cond, List, [], ◌∷◌, ◌++◌, Option, Some, None, length, take, slice_get, nat_eq, is_some, refl, sym, ap, ◌∙◌, arith, ◌+◌, ◌<◌, insert, remove, position}
use Rattle.std.specs.Map.{keys_of, lookup, values_of}
use Rattle.std.specs.Option.{option_map_or}
use Rattle.indexmap.specs.IndexMap.{IndexMap, get, insert_entry, move_index, set_value_at}
use Rattle.indexmap.proofs.CallerLemmas.{insert_entry-new}
use Rattle.indexmap.proofs.MapLemmas.{some_index}
use Rattle.std.proofs.lemmas.List.{length_push, take_all}
use Rattle.stream_core.specs.Tables.{place_of, renamed, change_place, change_at, rekeyed}
use Rattle.stream_core.specs.Known.{put_original}
use Rattle.stream_core.proofs.TableSteps.{all_but_new}

-- what has no value has none once an entry is gone
behind_one : {X : Type 0} (b : Bool) (x : X) (o : Option X) → cond b (Some x) o ≡ None → o ≡ None
behind_one true x o e = absurd cc
behind_one false x o e = e

kept_none : {X : Type 0} (b : Bool) (x : X) (o p : Option X) → cond b (Some x) o ≡ None → p ≡ None → cond b (Some x) p ≡ None
kept_none true x o p e f = absurd cc
kept_none false x o p e f = f

lookup_removed : {X : Type 0} (t : ℕ → Bool) (es : List (ℕ × X)) (i : ℕ) → lookup t es ≡ None → lookup t (remove es i) ≡ None
lookup_removed t [] zero none = refl
lookup_removed t [] (suc i) none = refl
lookup_removed t (e ∷ es) zero none = behind_one (t e.0) e.1 (lookup t es) none
lookup_removed t (e ∷ es) (suc i) none =
    kept_none (t e.0) e.1 (lookup t es) (lookup t (remove es i)) none (lookup_removed t es i (behind_one (t e.0) e.1 (lookup t es) none))

no_lookup : {X : Type 0} (o : Option X) → is_some o ≡ false → o ≡ None
no_lookup None e = refl
no_lookup (Some x) e = absurd cc

-- an entry goes, and comes back in its place under another key
put_back : {X : Type 0} (es : List (ℕ × X)) (i k : ℕ) (p : ℕ × X) → slice_get es i ≡ Some p → insert (remove es i) i (k, p.1) ≡ renamed k es i
put_back [] zero k p at = absurd cc
put_back [] (suc i) k p at = absurd cc
put_back (e ∷ es) zero k p at = let same : p ≡ e = cc in λ j. (k, (same j).1) ∷ es
put_back (e ∷ es) (suc i) k p at = ap (λ l. e ∷ l) (put_back es i k p at)

last_of : {X : Type 0} (xs : List X) (x : X) → slice_get (xs ++ x ∷ []) (length xs) ≡ Some x
last_of [] x = refl
last_of (y ∷ ys) x = last_of ys x

without_last : {X : Type 0} (xs : List X) (x : X) → remove (xs ++ x ∷ []) (length xs) ≡ xs
without_last [] x = refl
without_last (y ∷ ys) x = ap (λ l. y ∷ l) (without_last ys x)

moved_last : {X : Type 0} (xs : List X) (x : X) (i : ℕ) → move_index (xs ++ x ∷ []) (length xs) i ≡ insert xs i x
moved_last xs x i =
    ap (λ o. option_map_or (λ y. insert (remove (xs ++ x ∷ []) (length xs)) i y) o (xs ++ x ∷ [])) (last_of xs x)
    ∙ ap (λ l. insert l i x) (without_last xs x)

pub length_removed : {X : Type 0} (es : List X) (i : ℕ) → i < length es → length (remove es i) + 1 ≡ length es
length_removed [] i h = absurd (omega arith)
length_removed (e ∷ es) zero h = omega arith
length_removed (e ∷ es) (suc i) h = let rest = length_removed es i (omega arith) in omega (arith, rest)

-- one was taken out: a key that none had has none
module _ {X S : Type 0} (m : IndexMap ℕ X S) (es : List (ℕ × X)) (i k : ℕ) (gone : m.entries ≡ remove es i) (none : place_of k es ≡ None) where
  pub has_none : get nat_eq m k ≡ None
  has_none = ap (lookup (nat_eq k)) gone ∙ lookup_removed (nat_eq k) es i (no_lookup (lookup (nat_eq k) es) (sym (some_index (nat_eq k) es) ∙ ap is_some none))

-- and comes behind the others under such a key
module _ {X S : Type 0} (m : IndexMap ℕ X S) (es : List (ℕ × X)) (i k : ℕ) (x : X) (between : List (ℕ × X)) (gone : m.entries ≡ remove es i) (none : place_of k es ≡ None)
    (added : between ≡ insert_entry nat_eq m.entries k x) where
  pub added_behind : between ≡ m.entries ++ (k, x) ∷ []
  added_behind = added ∙ insert_entry-new nat_eq m k x (has_none m es i k gone none)

  -- so there are as many as there were
  pub as_many : i < length es → (length m.entries + 1 ≡ length es) × (length between ≡ length es)
  as_many within =
      let left = ap length gone in
      let less = length_removed es i within in
      let more = ap length added_behind ∙ length_push m.entries (k, x) in
      (omega arith, omega arith)

  -- and moved to its place it stands there under that key
  pub renamed_there : (p : ℕ × X) (after : List (ℕ × X)) (len : ℕ) → p.1 ≡ x → slice_get es i ≡ Some p → len ≡ length m.entries → after ≡ move_index between len i → after ≡ renamed k es i
  renamed_there p after len same at long moved =
      moved
      ∙ (λ j. move_index (added_behind j) (long j) i)
      ∙ moved_last m.entries (k, x) i
      ∙ ap (λ l. insert l i (k, x)) gone
      ∙ ap (λ y. insert (remove es i) i (k, y)) (sym same)
      ∙ put_back es i k p at

all_but_put : {X : Type 0} (o : Option ℕ) (es : List X) (x : X) → take (length es) (option_map_or (λ (i : ℕ). es) o (es ++ x ∷ [])) ≡ es
all_but_put None es x = all_but_new es x
all_but_put (Some i) es x = take_all (length es) es (omega arith)

-- what was put behind the others is taken off
pub all_but_original : (ssrc : ℕ) (rtx : Option ℕ) (os : List (ℕ × ℕ)) → take (length os) (put_original ssrc rtx os) ≡ os
all_but_original ssrc None os = take_all (length os) os (omega arith)
all_but_original ssrc (Some rtx) os = all_but_put (place_of rtx os) os (rtx, ssrc)

pub length_rekeyed : {X : Type 0} (k : ℕ) (es : List (ℕ × X)) (i : ℕ) → length (renamed k es i) ≡ length es
length_rekeyed k [] i = refl
length_rekeyed k (e ∷ es) zero = refl
length_rekeyed k (e ∷ es) (suc i) = ap suc (length_rekeyed k es i)

-- the value under the new key changes
pub rekeyed_value : {X : Type 0} (k : ℕ) (es : List (ℕ × X)) (i : ℕ) → values_of (renamed k es i) ≡ values_of es
rekeyed_value k [] i = refl
rekeyed_value k (e ∷ es) zero = refl
rekeyed_value k (e ∷ es) (suc i) = ap (λ l. e.1 ∷ l) (rekeyed_value k es i)

pub set_rekeyed : {X : Type 0} (k : ℕ) (f : X → X) (es : List (ℕ × X)) (i : ℕ) (x : X) → slice_get (values_of es) i ≡ Some x
    → set_value_at (renamed k es i) i (f x) ≡ renamed k (change_place f es i) i
set_rekeyed k f [] i x at = refl
set_rekeyed k f (e ∷ es) zero x at = let same : x ≡ e.1 = cc in ap (λ y. (k, f y) ∷ es) same
set_rekeyed k f (e ∷ es) (suc i) x at = ap (λ l. e ∷ l) (set_rekeyed k f es i x at)

keys_changed : {X : Type 0} (f : X → X) (es : List (ℕ × X)) (i : ℕ) → keys_of (change_place f es i) ≡ keys_of es
keys_changed f [] i = refl
keys_changed f (e ∷ es) zero = refl
keys_changed f (e ∷ es) (suc i) = ap (λ ks. e.0 ∷ ks) (keys_changed f es i)

-- so the value under a key changes, and comes to stand under another one
pub rekeyed_is : {X : Type 0} (from to : ℕ) (f : X → X) (es : List (ℕ × X)) (i : ℕ) → place_of from es ≡ Some i
    → rekeyed from to (change_at from f es) ≡ renamed to (change_place f es i) i
rekeyed_is from to f es i place =
    ap (rekeyed from to) (ap (λ o. option_map_or (change_place f es) o es) place)
    ∙ ap (λ o. option_map_or (renamed to (change_place f es i)) o (change_place f es i)) (ap (position (nat_eq from)) (keys_changed f es i) ∙ place)
