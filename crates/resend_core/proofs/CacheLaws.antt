-- Which packet a cache gives for a size.
use Rattle.std.proofs.Common.{◌≡◌, ◌≢◌, ℕ, zero, suc, ◌+◌, ◌/◌, ◌<◌, ◌≤◌, Bool, true, false, cond, eqb, List, [], ◌∷◌, refl, sym, ap, ◌∙◌, subst, arith, inl, inr, ⊎_elim, ◌⊎◌, Option, Some, None}
use Rattle.std.specs.Prelude.{◌||◌, nat_eq}
use Rattle.std.specs.List.{list_any}
use Rattle.std.proofs.lemmas.Bool.Decides.{nat_tests}
use Rattle.std.proofs.lemmas.Bool.{cases_eq}
use Rattle.resend_core.specs.ResendStore.{Event, pushed, evicted, latter, stored_under, last_under, InOrderFrom, AllStored}
use Rattle.resend_core.specs.RtxCache.{number_in, last_of_class, greatest_below, is_push_of, CachedOnce}

latter_none : {A : Type 0} (o : Option A) → latter None o ≡ o
latter_none None = refl
latter_none (Some x) = refl

-- an answer comes from the first part or the second
latter_split : {A : Type 0} (a b : Option A) (x : A) → latter a b ≡ Some x → ((a ≡ Some x) × (b ≡ None)) ⊎ (b ≡ Some x)
latter_split a None x h = inl (h, refl)
latter_split a (Some y) x h = inr h

-- a number and the class of what was pushed under it
number_at : {P : Type 0} (size : P → ℕ) (k n m t : ℕ) (p : P) (s : Bool) → number_in size k (pushed m t p s) ≡ Some n → (m ≡ n) × (size p / 25 ≡ k)
number_at {P} size k n m t p s h = pick (eqb (size p / 25) k) refl h where
  pick : (b : Bool) → eqb (size p / 25) k ≡ b → cond b (Some m) None ≡ Some n → (m ≡ n) × (size p / 25 ≡ k)
  pick false is e = absurd (let not_so : None ≡ Some n = e in cc)
  pick true is e = (cc, grind (arith, nat_tests))

stored_at : {P : Type 0} (n m t : ℕ) (p : P) (s : Bool) (x : ℕ × P) → stored_under n (pushed m t p s) ≡ Some x → (m ≡ n) × (t ≡ x.0) × (p ≡ x.1)
stored_at n m t p false x h = absurd (let not_so : None ≡ Some x = h in cc)
stored_at {P} n m t p true x h = pick (eqb m n) refl h where
  pick : (b : Bool) → eqb m n ≡ b → cond b (Some (t, p)) None ≡ Some x → (m ≡ n) × (t ≡ x.0) × (p ≡ x.1)
  pick false is e = absurd (let not_so : None ≡ Some x = e in cc)
  pick true is e = let eq : ◌≡◌ {A = ℕ × P} (t, p) x = cc in (grind (arith, nat_tests), ap (λ (y : ℕ × P). y.0) eq, ap (λ (y : ℕ × P). y.1) eq)

-- what was pushed at all
push_of_class : {P : Type 0} (size : P → ℕ) (k n : ℕ) (es : List (Event P)) → last_of_class size k es ≡ Some n → list_any (is_push_of n) es ≡ true
push_of_class size k n [] h = absurd (let not_so : None ≡ Some n = h in cc)
push_of_class size k n (evicted t ∷ es) h = push_of_class size k n es (sym (latter_none (last_of_class size k es)) ∙ h)
push_of_class {P} size k n (pushed m t p s ∷ es) h =
    ⊎_elim
    (λ (w : (number_in size k (pushed m t p s) ≡ Some n) × (last_of_class size k es ≡ None)). let at = number_at size k n m t p s w.0 in here at.0)
    (λ (w : last_of_class size k es ≡ Some n). there (push_of_class size k n es w))
    (latter_split (number_in size k (pushed m t p s)) (last_of_class size k es) n h) where
      here : m ≡ n → (nat_eq m n || list_any (is_push_of n) es) ≡ true
      here e = let test : nat_eq m n ≡ true = grind (arith, nat_tests) in ap (λ (b : Bool). b || list_any (is_push_of n) es) test

      there : list_any (is_push_of n) es ≡ true → (nat_eq m n || list_any (is_push_of n) es) ≡ true
      there e = ap (λ (b : Bool). nat_eq m n || b) e ∙ pick (nat_eq m n) where
        pick : (b : Bool) → (b || true) ≡ true
        pick true = refl
        pick false = refl

push_under : {P : Type 0} (n : ℕ) (x : ℕ × P) (es : List (Event P)) → last_under n es ≡ Some x → list_any (is_push_of n) es ≡ true
push_under n x [] h = absurd (let not_so : None ≡ Some x = h in cc)
push_under n x (evicted t ∷ es) h = push_under n x es (sym (latter_none (last_under n es)) ∙ h)
push_under {P} n x (pushed m t p s ∷ es) h =
    ⊎_elim
    (λ (w : (stored_under n (pushed m t p s) ≡ Some x) × (last_under n es ≡ None)). let at = stored_at n m t p s x w.0 in here at.0)
    (λ (w : last_under n es ≡ Some x). there (push_under n x es w))
    (latter_split (stored_under n (pushed m t p s)) (last_under n es) x h) where
      here : m ≡ n → (nat_eq m n || list_any (is_push_of n) es) ≡ true
      here e = let test : nat_eq m n ≡ true = grind (arith, nat_tests) in ap (λ (b : Bool). b || list_any (is_push_of n) es) test

      there : list_any (is_push_of n) es ≡ true → (nat_eq m n || list_any (is_push_of n) es) ≡ true
      there e = ap (λ (b : Bool). nat_eq m n || b) e ∙ pick (nat_eq m n) where
        pick : (b : Bool) → (b || true) ≡ true
        pick true = refl
        pick false = refl

clash : {P : Type 0} (n : ℕ) (es : List (Event P)) → list_any (is_push_of n) es ≡ false → list_any (is_push_of n) es ≡ true → ⊥
clash n es a b = let not_so : true ≡ false = sym b ∙ a in cc

-- where no number is pushed twice, what is held under the last number of a class is of that class
pub class_of_last : {P : Type 0} (size : P → ℕ) (k n : ℕ) (x : ℕ × P) (es : List (Event P)) → CachedOnce es → last_of_class size k es ≡ Some n → last_under n es ≡ Some x → size x.1 / 25 ≡ k
class_of_last size k n x [] once h u = absurd (let not_so : None ≡ Some n = h in cc)
class_of_last size k n x (evicted t ∷ es) once h u = class_of_last size k n x es once (sym (latter_none (last_of_class size k es)) ∙ h) (sym (latter_none (last_under n es)) ∙ u)
class_of_last {P} size k n x (pushed m t p s ∷ es) once h u =
    ⊎_elim
    (λ (w : (number_in size k (pushed m t p s) ≡ Some n) × (last_of_class size k es ≡ None)).
    let at = number_at size k n m t p s w.0 in
    let new : list_any (is_push_of n) es ≡ false = subst (λ (i : ℕ). list_any (is_push_of i) es ≡ false) at.0 once.0 in
    ⊎_elim
    (λ (v : (stored_under n (pushed m t p s) ≡ Some x) × (last_under n es ≡ None)). ap (λ (q : P). size q / 25) (sym (stored_at n m t p s x v.0).2) ∙ at.1)
    (λ (v : last_under n es ≡ Some x). absurd (clash n es new (push_under n x es v)))
    (latter_split (stored_under n (pushed m t p s)) (last_under n es) x u))
    (λ (w : last_of_class size k es ≡ Some n).
    ⊎_elim
    (λ (v : (stored_under n (pushed m t p s) ≡ Some x) × (last_under n es ≡ None)).
    let at = stored_at n m t p s x v.0 in
    absurd (clash n es (subst (λ (i : ℕ). list_any (is_push_of i) es ≡ false) at.0 once.0) (push_of_class size k n es w)))
    (λ (v : last_under n es ≡ Some x). class_of_last size k n x es once.1 w v)
    (latter_split (stored_under n (pushed m t p s)) (last_under n es) x u))
    (latter_split (number_in size k (pushed m t p s)) (last_of_class size k es) n h)

-- in order, what is stored later has a greater number and no earlier moment
in_order_under : {P : Type 0} (next now n : ℕ) (x : ℕ × P) (es : List (Event P)) → InOrderFrom next now es → last_under n es ≡ Some x → (next ≤ n) × (now ≤ x.0)
in_order_under next now n x [] o h = absurd (let not_so : None ≡ Some x = h in cc)
in_order_under next now n x (evicted t ∷ es) o h =
    let w = in_order_under next t n x es o.1 (sym (latter_none (last_under n es)) ∙ h) in (w.0, le now t x.0 o.0 w.1) where
      le : (a b c : ℕ) → a ≤ b → b ≤ c → a ≤ c
      le a b c i j = omega arith
in_order_under {P} next now n x (pushed m t p s ∷ es) o h =
    ⊎_elim
    (λ (w : (stored_under n (pushed m t p s) ≡ Some x) × (last_under n es ≡ None)). let at = stored_at n m t p s x w.0 in (here next m n o.0 at.0, here now t x.0 o.1 at.1))
    (λ (w : last_under n es ≡ Some x). let r = in_order_under (m + 1) t n x es o.2 w in (beyond next m n o.0 r.0, le now t x.0 o.1 r.1))
    (latter_split (stored_under n (pushed m t p s)) (last_under n es) x h) where
      here : (a b c : ℕ) → a ≤ b → b ≡ c → a ≤ c
      here a b c i j = omega arith

      le : (a b c : ℕ) → a ≤ b → b ≤ c → a ≤ c
      le a b c i j = omega arith

      beyond : (a b c : ℕ) → a ≤ b → b + 1 ≤ c → a ≤ c
      beyond a b c i j = omega arith

-- a packet that was stored under a number, not before a moment
pub record IsLater {P : Type 0} (next now n : ℕ) (es : List (Event P)) : Type 0 where
  pub stored : ℕ × P
  pub under : last_under n es ≡ Some stored
  pub above : next ≤ n
  pub late : now ≤ stored.0

later_more : {P : Type 0} (next now n m t : ℕ) (e : Event P) (es : List (Event P)) → next ≤ m + 1 → now ≤ t → IsLater (m + 1) t n es → IsLater next now n (e ∷ es)
later_more next now n m t e es i j w = record {
  stored = w.stored;
  under = ap (λ (o : _). latter (stored_under n e) o) w.under;
  above = le next (m + 1) n i w.above;
  late = le now t w.stored.0 j w.late;
} where
  le : (a b c : ℕ) → a ≤ b → b ≤ c → a ≤ c
  le a b c i j = omega arith

stored_here : {P : Type 0} (n t : ℕ) (p : P) → stored_under n (pushed n t p true) ≡ Some (t, p)
stored_here n t p = let same : eqb n n ≡ true = grind (arith, nat_tests) in ap (λ (b : Bool). cond b (Some (t, p)) None) same

-- the last of a class was stored
last_stored : {P : Type 0} (size : P → ℕ) (k next now n : ℕ) (es : List (Event P)) → InOrderFrom next now es → AllStored es → last_of_class size k es ≡ Some n → IsLater next now n es
last_stored size k next now n [] o all h = absurd (let not_so : None ≡ Some n = h in cc)
last_stored size k next now n (evicted t ∷ es) o all h =
    let w = last_stored size k next t n es o.1 all (sym (latter_none (last_of_class size k es)) ∙ h) in
    record { stored = w.stored; under = latter_none (last_under n es) ∙ w.under; above = w.above; late = le now t w.stored.0 o.0 w.late } where
      le : (a b c : ℕ) → a ≤ b → b ≤ c → a ≤ c
      le a b c i j = omega arith
last_stored {P} size k next now n (pushed m t p s ∷ es) o all h =
    ⊎_elim
    (λ (w : (number_in size k (pushed m t p s) ≡ Some n) × (last_of_class size k es ≡ None)).
    let at = number_at size k n m t p s w.0 in
    pick (last_under n es) refl at.0)
    (λ (w : last_of_class size k es ≡ Some n). later_more next now n m t (pushed m t p s) es (up next m o.0) o.1 (last_stored size k (m + 1) t n es o.2 all.1 w))
    (latter_split (number_in size k (pushed m t p s)) (last_of_class size k es) n h) where
      up : (a b : ℕ) → a ≤ b → a ≤ b + 1
      up a b i = omega arith

      here : (a b c : ℕ) → a ≤ b → b ≡ c → a ≤ c
      here a b c i j = omega arith

      pick : (r : Option (ℕ × P)) → last_under n es ≡ r → m ≡ n → IsLater next now n (pushed m t p s ∷ es)
      pick None is at = record {
        stored = (t, p);
        under =
            ap (λ (r : Option (ℕ × P)). latter (stored_under n (pushed m t p s)) r) is
            ∙ ap (λ (b : Bool). stored_under n (pushed m t p b)) all.0
            ∙ ap (λ (i : ℕ). stored_under n (pushed i t p true)) at
            ∙ stored_here n t p;
        above = here next m n o.0 at;
        late = o.1;
      }
      pick (Some y) is at =
          let w = in_order_under (m + 1) t n y es o.2 is in
          absurd (none m n at w.0) where
            none : (a b : ℕ) → a ≡ b → a + 1 ≤ b → ⊥
            none a b i j = omega arith

-- after a stored packet the last of its class is stored under a number no lower and no earlier
pub record HasLast {P : Type 0} (size : P → ℕ) (k n now : ℕ) (es : List (Event P)) : Type 0 where
  pub number : ℕ
  pub last : last_of_class size k es ≡ Some number
  pub later : IsLater n now number es

pub last_after : {P : Type 0} (size : P → ℕ) (n next now : ℕ) (x : ℕ × P) (es : List (Event P)) → InOrderFrom next now es → AllStored es → last_under n es ≡ Some x → HasLast size (size x.1 / 25) n x.0 es
last_after size n next now x [] o all h = absurd (let not_so : None ≡ Some x = h in cc)
last_after size n next now x (evicted t ∷ es) o all h =
    let w = last_after size n next t x es o.1 all (sym (latter_none (last_under n es)) ∙ h) in
    record {
      number = w.number;
      last = latter_none (last_of_class size (size x.1 / 25) es) ∙ w.last;
      later = record { stored = w.later.stored; under = latter_none (last_under w.number es) ∙ w.later.under; above = w.later.above; late = w.later.late };
    }
last_after {P} size n next now x (pushed m t p s ∷ es) o all h =
    ⊎_elim
    (λ (w : (stored_under n (pushed m t p s) ≡ Some x) × (last_under n es ≡ None)). let at = stored_at n m t p s x w.0 in pick (last_of_class size (size x.1 / 25) es) refl at.0 at.1 at.2)
    (λ (w : last_under n es ≡ Some x).
    let r = last_after size n (m + 1) t x es o.2 all.1 w in
    record {
      number = r.number;
      last = ap (λ (q : Option ℕ). latter (number_in size (size x.1 / 25) (pushed m t p s)) q) r.last;
      later = record { stored = r.later.stored; under = ap (λ (q : Option (ℕ × P)). latter (stored_under r.number (pushed m t p s)) q) r.later.under; above = r.later.above; late = r.later.late };
    })
    (latter_split (stored_under n (pushed m t p s)) (last_under n es) x h) where
      above : (a b c : ℕ) → a + 1 ≤ b → a ≡ c → c ≤ b
      above a b c i j = omega arith

      late : (a b c : ℕ) → a ≤ b → a ≡ c → c ≤ b
      late a b c i j = omega arith

      same : (a b : ℕ) → a ≡ b → a ≤ b
      same a b i = omega arith

      pick : (q : Option ℕ) → last_of_class size (size x.1 / 25) es ≡ q → m ≡ n → t ≡ x.0 → p ≡ x.1 → HasLast size (size x.1 / 25) n x.0 (pushed m t p s ∷ es)
      pick (Some k) is at when what =
          let w = last_stored size (size x.1 / 25) (m + 1) t k es o.2 all.1 is in
          record {
            number = k;
            last = ap (λ (q : Option ℕ). latter (number_in size (size x.1 / 25) (pushed m t p s)) q) is;
            later = record { stored = w.stored; under = ap (λ (q : Option (ℕ × P)). latter (stored_under k (pushed m t p s)) q) w.under; above = above m k n w.above at; late = late t w.stored.0 x.0 w.late when };
          }
      pick None is at when what =
          let test : eqb (size x.1 / 25) (size x.1 / 25) ≡ true = grind (arith, nat_tests) in
          record {
            number = n;
            last =
                ap (λ (q : Option ℕ). latter (number_in size (size x.1 / 25) (pushed m t p s)) q) is
                ∙ ap (λ (b : P). cond (eqb (size b / 25) (size x.1 / 25)) (Some m) None) what
                ∙ ap (λ (b : Bool). cond b (Some m) None) test
                ∙ ap (λ (i : ℕ). Some i) at;
            later = record { stored = x; under = h; above = same n n refl; late = same x.0 x.0 refl };
          }

-- the greatest class below another for which there is one
pub none_below : {P : Type 0} (f : ℕ → Option P) (k class : ℕ) → greatest_below f class ≡ None → k < class → f k ≡ None
none_below f k zero h lt = absurd (omega arith)
none_below {P} f k (suc class) h lt =
    ⊎_elim
    (λ (e : k ≡ class). ap f e ∙ second (greatest_below f class) (f class) h)
    (λ (ne : k ≢ class). none_below f k class (first (greatest_below f class) (f class) h) (omega arith))
    (cases_eq k class) where
      second : (a b : Option P) → latter a b ≡ None → b ≡ None
      second a None e = refl
      second a (Some y) e = absurd (let not_so : Some y ≡ None = e in cc)

      first : (a b : Option P) → latter a b ≡ None → a ≡ None
      first a None e = e
      first a (Some y) e = absurd (let not_so : Some y ≡ None = e in cc)

pub some_below : {P : Type 0} (f : ℕ → Option P) (class : ℕ) (p : P) → greatest_below f class ≡ Some p → (k : ℕ) × (k < class) × (f k ≡ Some p)
some_below f zero p h = absurd (let not_so : None ≡ Some p = h in cc)
some_below {P} f (suc class) p h =
    ⊎_elim
    (λ (w : (greatest_below f class ≡ Some p) × (f class ≡ None)). let r = some_below f class p w.0 in (r.0, more r.0 class r.1, r.2))
    (λ (w : f class ≡ Some p). (class, more_self class, w))
    (latter_split (greatest_below f class) (f class) p h) where
      more : (a b : ℕ) → a < b → a < suc b
      more a b i = omega arith

      more_self : (a : ℕ) → a < suc a
      more_self a = omega arith

pub below_same : {P : Type 0} (f g : ℕ → Option P) (class : ℕ) → ((k : ℕ) → k < class → f k ≡ g k) → greatest_below f class ≡ greatest_below g class
below_same f g zero same = refl
below_same {P} f g (suc class) same =
    ap (λ (o : Option P). latter (greatest_below f class) o) (same class (omega arith))
    ∙ ap (λ (o : Option P). latter o (g class)) (below_same f g class (λ k lt. same k (omega arith)))

-- classes without a packet may be left out
pub above_none : {P : Type 0} (f : ℕ → Option P) (m n : ℕ) → m ≤ n → ((k : ℕ) → m ≤ k → k < n → f k ≡ None) → greatest_below f m ≡ greatest_below f n
above_none f m zero le gone = ap (greatest_below f) (nil m le) where
  nil : (m : ℕ) → m ≤ 0 → m ≡ 0
  nil m i = omega arith
above_none {P} f m (suc n) le gone =
    ⊎_elim
    (λ (e : m ≡ suc n). ap (greatest_below f) e)
    (λ (ne : m ≢ suc n).
    let low : m ≤ n = omega arith in
    above_none f m n low (λ k i j. gone k i (omega arith)) ∙ ap (λ (o : Option P). latter (greatest_below f n) o) (sym (gone n low (omega arith))))
    (cases_eq m (suc n))
