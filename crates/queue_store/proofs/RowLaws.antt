-- What two queues hold together after a change at an index of both.
use Rattle.std.proofs.Common.{◌≡◌, ◌≢◌, ℕ, zero, suc, ◌<◌, ◌≤◌, Bool, true, false, cond, eqb, List, [], ◌∷◌, refl, sym, ap, ◌∙◌, arith, length, drop, ⊎_elim, Option, Some, None, Result, Ok, Err}
use Rattle.std.specs.Prelude.{slice_set, option_map}
use Rattle.std.specs.Option.{OnSome}
use Rattle.std.specs.Result.{IfOk, IfErr, OnOk, OnErr, is_err, result_ok}
use Rattle.std.specs.List.{insert, remove}
use Rattle.std.proofs.lemmas.Bool.{cases_lt}
use Rattle.queue_store.specs.declared.stamps.Stamp.{Stamp}
use Rattle.queue_store.specs.Stamps.{stamp_at, first_of, IsFound, IsPlace, AllAbove}
use Rattle.queue_store.specs.Queue.{index_of, held, put_held}
use Rattle.queue_store.proofs.HeldLaws.{eq_true, eq_false, eq_is}
use Rattle.queue_store.proofs.StampLaws.{place_rest}

found_rest : (a : Stamp) (l : List Stamp) (p i : ℕ) → IsFound (a ∷ l) p (suc i) → IsFound l p i
found_rest a l p i h = record { within = omega (arith, h.within); here = h.here; below = λ k lt. h.below (suc k) (omega arith) }

-- the index that was found is that of the position
pub found_index : (l : List Stamp) (p i : ℕ) → IsFound l p i → index_of l p ≡ Some i
found_index [] p i h = absurd (omega (arith, h.within))
found_index (a ∷ l) p zero h = ap (λ (b : Bool). cond b (Some 0) (option_map (λ j. suc j) (index_of l p))) (eq_true a.position p h.here)
found_index (a ∷ l) p (suc i) h =
    let less : a.position < p = h.below zero (omega arith) in
    ap (λ (b : Bool). cond b (Some 0) (option_map (λ j. suc j) (index_of l p))) (eq_false a.position p (λ e. omega arith))
    ∙ ap (λ (o : Option ℕ). option_map (λ j. suc j) o) (found_index l p i (found_rest a l p i h))

-- a position that is at no index
none_at : (l : List Stamp) (p : ℕ) → ((k : ℕ) → k < length l → (stamp_at l k).position ≢ p) → index_of l p ≡ None
none_at [] p h = refl
none_at (a ∷ l) p h =
    ap (λ (b : Bool). cond b (Some 0) (option_map (λ j. suc j) (index_of l p))) (eq_false a.position p (h zero (omega arith)))
    ∙ ap (λ (o : Option ℕ). option_map (λ j. suc j) o) (none_at l p (λ k lt. h (suc k) (omega arith)))

pub missed_index : (l : List Stamp) (p i : ℕ) → IsPlace l p i → index_of l p ≡ None
missed_index l p i h = none_at l p (λ k lt e. ⊎_elim (λ (b : k < i). let less = h.below k b in absurd (omega arith)) (λ (a : i ≤ k). let more = h.above k a lt in absurd (omega arith)) (cases_lt k i))

-- a choice that comes first may come second, where no position meets both
swap : {A : Type 0} (a p k : ℕ) (x y z : A) → a ≢ p → cond (eqb a k) x (cond (eqb p k) y z) ≡ cond (eqb p k) y (cond (eqb a k) x z)
swap {A} a p k x y z ne = pick (eqb p k) refl where
  pick : (b : Bool) → eqb p k ≡ b → cond (eqb a k) x (cond b y z) ≡ cond b y (cond (eqb a k) x z)
  pick true t = ap (λ (c : Bool). cond c x y) (eq_false a k (λ e. ne (e ∙ sym (eq_is p k t))))
  pick false t = refl

pub held_set : {T : Type 0} (l : List Stamp) (vs : List T) (i : ℕ) (s : Stamp) (v : T) → IsFound l s.position i → i < length vs → (k : ℕ) → held (slice_set l i s) (slice_set vs i v) k ≡ put_held s v l vs k
held_set [] vs i s v h lt k = absurd (omega (arith, h.within))
held_set (a ∷ l) [] i s v h lt k = absurd (omega arith)
held_set {T} (a ∷ l) (b ∷ vs) zero s v h lt k = pick (eqb s.position k) refl where
  pick : (c : Bool) → eqb s.position k ≡ c → cond c (Some (s.moment, v)) (held l vs k) ≡ cond c (Some (s.moment, v)) (cond (eqb a.position k) (Some (a.moment, b)) (held l vs k))
  pick true t = refl
  pick false t = sym (ap (λ (n : ℕ). cond (eqb n k) (Some (a.moment, b)) (held l vs k)) h.here ∙ ap (λ (c : Bool). cond c (Some (a.moment, b)) (held l vs k)) t)
held_set {T} (a ∷ l) (b ∷ vs) (suc i) s v h lt k =
    let less : a.position < s.position = h.below zero (omega arith) in
    ap (λ (o : Option (ℕ × T)). cond (eqb a.position k) (Some (a.moment, b)) o) (held_set l vs i s v (found_rest a l s.position i h) (omega arith) k)
    ∙ swap a.position s.position k (Some (a.moment, b)) (Some (s.moment, v)) (held l vs k) (λ e. omega arith)

pub held_insert : {T : Type 0} (l : List Stamp) (vs : List T) (i : ℕ) (s : Stamp) (v : T) → IsPlace l s.position i → i ≤ length vs → (k : ℕ) → held (insert l i s) (insert vs i v) k ≡ put_held s v l vs k
held_insert [] [] zero s v h le k = refl
held_insert [] (b ∷ vs) zero s v h le k = refl
held_insert (a ∷ l) [] zero s v h le k = refl
held_insert (a ∷ l) (b ∷ vs) zero s v h le k = refl
held_insert [] vs (suc i) s v h le k = absurd (omega (arith, h.within))
held_insert (a ∷ l) [] (suc i) s v h le k = absurd (omega arith)
held_insert {T} (a ∷ l) (b ∷ vs) (suc i) s v h le k =
    let less : a.position < s.position = h.below zero (omega arith) in
    ap (λ (o : Option (ℕ × T)). cond (eqb a.position k) (Some (a.moment, b)) o) (held_insert l vs i s v (place_rest a l s.position i h) (omega arith) k)
    ∙ swap a.position s.position k (Some (a.moment, b)) (Some (s.moment, v)) (held l vs k) (λ e. omega arith)

pub remove_inserted : {T : Type 0} (vs : List T) (i : ℕ) (v : T) → i ≤ length vs → remove (insert vs i v) i ≡ vs
remove_inserted [] zero v le = refl
remove_inserted [] (suc i) v le = absurd (omega arith)
remove_inserted (b ∷ vs) zero v le = refl
remove_inserted {T} (b ∷ vs) (suc i) v le = ap (λ (l : List T). b ∷ l) (remove_inserted vs i v (omega arith))

-- nothing is held below all positions
held_none : {T : Type 0} (l : List Stamp) (vs : List T) (p : ℕ) → AllAbove p l → held l vs p ≡ None
held_none [] vs p h = refl
held_none (a ∷ l) [] p h = refl
held_none (a ∷ l) (b ∷ vs) p h =
    let more : p < a.position = h zero (omega arith) in
    ap (λ (c : Bool). cond c (Some (a.moment, b)) (held l vs p)) (eq_false a.position p (λ e. omega arith))
    ∙ held_none l vs p (λ k lt. h (suc k) (omega arith))

-- the lowest position is dropped
pub record Front {T : Type 0} (l : List Stamp) (vs : List T) (s : Stamp) : Type 0 where
  pub value : T
  pub here : held l vs s.position ≡ Some (s.moment, value)
  pub gone : held (drop 1 l) (drop 1 vs) s.position ≡ None
  pub rest : (k : ℕ) → k ≢ s.position → held (drop 1 l) (drop 1 vs) k ≡ held l vs k
  pub shorter : length (drop 1 l) < length l
  pub paired : length (drop 1 l) ≡ length (drop 1 vs)

pub front_dropped : {T : Type 0} (l : List Stamp) (vs : List T) (s : Stamp) → length l ≡ length vs → first_of l ≡ Some s → AllAbove s.position (drop 1 l) → Front l vs s
front_dropped [] vs s pair first above = absurd (let no : None ≡ Some s = first in cc)
front_dropped (a ∷ l) [] s pair first above = absurd (omega arith)
front_dropped {T} (a ∷ l) (b ∷ vs) s pair first above = record {
  value = b;
  here = ap (λ (c : Bool). cond c (Some (a.moment, b)) (held l vs s.position)) (eq_true a.position s.position (ap (λ (x : Stamp). x.position) same)) ∙ ap (λ (x : Stamp). Some (x.moment, b)) same;
  gone = held_none l vs s.position above;
  rest = λ k ne. sym (ap (λ (c : Bool). cond c (Some (a.moment, b)) (held l vs k)) (eq_false a.position k (λ e. ne (sym e ∙ ap (λ (x : Stamp). x.position) same))));
  shorter = omega arith;
  paired = omega arith;
} where
  same : a ≡ s
  same = let both : Some a ≡ Some s = first in cc

-- something is held under each position that stands at an index
pub held_some : {T : Type 0} (l : List Stamp) (vs : List T) (i : ℕ) → length l ≡ length vs → i < length l → (y : ℕ × T) × (held l vs (stamp_at l i).position ≡ Some y)
held_some [] vs i pair lt = absurd (omega arith)
held_some (a ∷ l) [] i pair lt = absurd (omega arith)
held_some (a ∷ l) (b ∷ vs) zero pair lt = ((a.moment, b), ap (λ (c : Bool). cond c (Some (a.moment, b)) (held l vs a.position)) (eq_true a.position a.position refl))
held_some {T} (a ∷ l) (b ∷ vs) (suc i) pair lt = pick (eqb a.position (stamp_at l i).position) (held_some l vs i (omega arith) (omega arith)) where
  pick : (c : Bool) → (y : ℕ × T) × (held l vs (stamp_at l i).position ≡ Some y) → (y : ℕ × T) × (cond c (Some (a.moment, b)) (held l vs (stamp_at l i).position) ≡ Some y)
  pick true rest = ((a.moment, b), refl)
  pick false rest = rest

-- what is held is not below the first position
pub held_from : {T : Type 0} (l : List Stamp) (vs : List T) (s : Stamp) (k : ℕ) (x : ℕ × T) → length l ≡ length vs → first_of l ≡ Some s → AllAbove s.position (drop 1 l) → held l vs k ≡ Some x → s.position ≤ k
held_from l vs s k x pair first above is = ⊎_elim (λ (lt : k < s.position). absurd (none l first above lt is)) (λ (le : s.position ≤ k). le) (cases_lt k s.position) where
  none : (l : List Stamp) → first_of l ≡ Some s → AllAbove s.position (drop 1 l) → k < s.position → held l vs k ≡ Some x → ⊥
  none [] first above lt is = let no : None ≡ Some x = is in cc
  none (a ∷ l) first above lt is =
      let both : Some a ≡ Some s = first in
      let same : a ≡ s = cc in
      let at : a.position ≡ s.position = ap (λ (y : Stamp). y.position) same in
      let no : None ≡ Some x = sym (held_none (a ∷ l) vs k (all_above a l at above lt)) ∙ is in cc where
        all_above : (a : Stamp) (l : List Stamp) → a.position ≡ s.position → AllAbove s.position l → k < s.position → AllAbove k (a ∷ l)
        all_above a l at above lt zero within = omega arith
        all_above a l at above lt (suc i) within = let more = above i (omega arith) in omega arith

pub drop_shorter : (l : List Stamp) (s : Stamp) → first_of l ≡ Some s → length (drop 1 l) < length l
drop_shorter [] s e = absurd (let no : None ≡ Some s = e in cc)
drop_shorter (a ∷ l) s e = omega arith

pub ok_when : {A B : Type 0} (P : Type 0) (r : Result A B) → OnOk r P → false ≡ is_err r → P
ok_when P (Ok x) h e = h
ok_when P (Err x) h e = absurd (let no : false ≡ true = e in cc)

pub err_when : {A B : Type 0} (P : Type 0) (r : Result A B) → OnErr r P → true ≡ is_err r → P
err_when P (Ok x) h e = absurd (let no : true ≡ false = e in cc)
err_when P (Err x) h e = h

pub some_when : {A : Type 0} (P : Type 0) (o : Option A) → P → OnSome o P
some_when P None h = tt
some_when P (Some x) h = h

-- the index that a search found
pub index_is : (l : List Stamp) (p : ℕ) (r : Result ℕ ℕ) → IfOk r (IsFound l p) → IfErr r (IsPlace l p) → result_ok r ≡ index_of l p
index_is l p (Ok i) found missed = sym (found_index l p i found)
index_is l p (Err i) found missed = sym (missed_index l p i missed)
