-- What a cache stands for after each step.
use Rattle.std.proofs.Common.{◌≡◌, ◌≢◌, ℕ, zero, suc, ◌+◌, ◌-◌, ◌/◌, ◌<◌, ◌≤◌, Bool, true, false, cond, eqb, List, [], ◌∷◌, ◌++◌, refl, sym, ap, ◌∙◌, subst, arith, length, replicate, max, min, inl, inr, ⊎_elim, Option, Some, None}
use Rattle.std.specs.Prelude.{slice_index_or, slice_set, option_and_then}
use Rattle.std.proofs.lemmas.Bool.Decides.{nat_tests}
use Rattle.std.proofs.lemmas.List.{get_or-set_other, get_or-set_same, get_or-replicate, length-set}
use Rattle.std.proofs.lemmas.Bool.{cases_eq}
use Rattle.resend_core.specs.declared.rtx_cache.RtxCache.{RtxCache}
use Rattle.resend_core.specs.ResendStore.{Event, pushed, evicted, Past, with_event, emptied, latter, next_position, latest_eviction, InOrderFrom, IsInOrder, AllStored, HeldAs, IsPushedInto}
use Rattle.resend_core.specs.RtxCache.{number_in, last_of_class, greatest_below, packet_at, made_for, StandsFor, IsCached, CachedOnce, NoneKept}
use Rattle.resend_core.proofs.EventsAdded.{last_by-push}
use Rattle.resend_core.proofs.CacheLaws.{class_of_last, last_after, none_below, some_below, below_same}

no_number : {P : Type 0} (size : P → ℕ) (numbers : List (Option ℕ)) → numbers ≡ replicate 80 None → (k : ℕ) → k < 80 → slice_index_or numbers k None ≡ None
no_number size numbers blank k lt = ap (λ (l : List (Option ℕ)). slice_index_or l k None) blank ∙ get_or-replicate 80 k None None lt

pub made_stands : {P S : Type 0} (stands : S → Past P → Type 0) (size : P → ℕ) (c : RtxCache P S) (packets age room : ℕ) → c.numbers ≡ replicate 80 None → room ≡ min packets 10
    → stands c.packets (record { initial = room; age = age; greatest = packets; events = [] }) → StandsFor stands size c (made_for packets age)
made_stands {P} stands size c packets age room blank is b = record {
  store = subst (λ (n : ℕ). stands c.packets (record { initial = n; age = age; greatest = packets; events = [] })) is b;
  long = rw blank refl;
  classes = λ k lt. no_number size c.numbers blank k lt;
  ordered = λ o roomy aging. tt;
}

pub emptied_stands : {P S : Type 0} (stands : S → Past P → Type 0) (size : P → ℕ) (c : RtxCache P S) (past : Past P) → c.numbers ≡ replicate 80 None → stands c.packets (emptied past) → StandsFor stands size c (emptied past)
emptied_stands stands size c past blank b = record { store = b; long = rw blank refl; classes = λ k lt. no_number size c.numbers blank k lt; ordered = λ o roomy aging. tt }

-- events in order
order_front : {P : Type 0} (a b : ℕ) (es : List (Event P)) (e : Event P) → InOrderFrom a b (es ++ e ∷ []) → InOrderFrom a b es
order_front a b [] e o = tt
order_front a b (pushed n t p s ∷ es) e o = (o.0, o.1, order_front (n + 1) t es e o.2)
order_front a b (evicted t ∷ es) e o = (o.0, order_front a t es e o.1)

order_push : {P : Type 0} (a b : ℕ) (es : List (Event P)) (n t : ℕ) (p : P) (s : Bool) → InOrderFrom a b (es ++ pushed n t p s ∷ []) → (max a (next_position es) ≤ n) × (max b (latest_eviction es) ≤ t)
order_push a b [] n t p s o = (low a n o.0, low b t o.1) where
  low : (a b : ℕ) → a ≤ b → max a 0 ≤ b
  low a b i = omega arith
order_push a b (pushed m u q r ∷ es) n t p s o =
    let w = order_push (m + 1) u es n t p s o.2 in (next a m (next_position es) n o.0 w.0, late b u (latest_eviction es) t o.1 w.1) where
      next : (a m k n : ℕ) → a ≤ m → max (m + 1) k ≤ n → max a (max (m + 1) k) ≤ n
      next a m k n i j = omega arith

      late : (b u k t : ℕ) → b ≤ u → max u k ≤ t → max b (max 0 k) ≤ t
      late b u k t i j = omega arith
order_push a b (evicted u ∷ es) n t p s o =
    let w = order_push a u es n t p s o.1 in (next a (next_position es) n w.0, late b u (latest_eviction es) t o.0 w.1) where
      next : (a k n : ℕ) → max a k ≤ n → max a (max 0 k) ≤ n
      next a k n i = omega arith

      late : (b u k t : ℕ) → b ≤ u → max u k ≤ t → max b (max u k) ≤ t
      late b u k t i j = omega arith

all_push : {P : Type 0} (es : List (Event P)) (n t : ℕ) (p : P) (s : Bool) → AllStored es → s ≡ true → AllStored (es ++ pushed n t p s ∷ [])
all_push [] n t p s all is = (is, tt)
all_push (pushed m u q r ∷ es) n t p s all is = (all.0, all_push es n t p s all.1 is)
all_push (evicted u ∷ es) n t p s all is = all_push es n t p s all is

all_evict : {P : Type 0} (es : List (Event P)) (t : ℕ) → AllStored es → AllStored (es ++ evicted t ∷ [])
all_evict [] t all = tt
all_evict (pushed m u q r ∷ es) t all = (all.0, all_evict es t all.1)
all_evict (evicted u ∷ es) t all = all_evict es t all

-- the last number of each class, after a packet was cached
class_after : {P : Type 0} (size : P → ℕ) (numbers : List (Option ℕ)) (es : List (Event P)) (n t : ℕ) (p : P) (s : Bool) (k : ℕ) → length numbers ≡ 80 → k < 80 → slice_index_or numbers k None ≡ last_of_class size k es
    → slice_index_or (slice_set numbers (size p / 25) (Some n)) k None ≡ last_of_class size k ((es ++ pushed n t p s ∷ []) ++ evicted t ∷ [])
class_after {P} size numbers es n t p s k long lt is =
    ⊎_elim
    (λ (e : k ≡ size p / 25).
    let within : size p / 25 < length numbers = omega arith in
    let test : eqb (size p / 25) k ≡ true = grind (arith, nat_tests) in
    ap (λ (i : ℕ). slice_index_or (slice_set numbers (size p / 25) (Some n)) i None) e ∙ get_or-set_same numbers (size p / 25) (Some n) None within ∙ sym (after true test))
    (λ (ne : k ≢ size p / 25).
    let test : eqb (size p / 25) k ≡ false = grind (arith, nat_tests) in
    get_or-set_other numbers (size p / 25) k (Some n) None ne ∙ is ∙ sym (after false test))
    (cases_eq k (size p / 25)) where
      after : (b : Bool) → eqb (size p / 25) k ≡ b → last_of_class size k ((es ++ pushed n t p s ∷ []) ++ evicted t ∷ []) ≡ latter (last_of_class size k es) (cond b (Some n) None)
      after b test =
          last_by-push (number_in size k) (es ++ pushed n t p s ∷ []) (evicted t)
          ∙ last_by-push (number_in size k) es (pushed n t p s)
          ∙ ap (λ (c : Bool). latter (last_of_class size k es) (cond c (Some n) None)) test

pub cached_stands : {P S : Type 0} (stands : S → Past P → Type 0) (size : P → ℕ) (c c' : RtxCache P S) (b : S) (past : Past P) (n t : ℕ) (p : P) → IsPushedInto stands past n t p b
    → ((after : Past P) → stands b after → stands c'.packets (with_event after (evicted t)))
    → c'.numbers ≡ slice_set c.numbers (size p / 25) (Some n) → StandsFor stands size c past → IsCached stands size past n t p c'
cached_stands {P} stands size c c' b past n t p push evicts numbers h = (
  push.0,
  push.1,
  record {
    store = evicts (with_event past (pushed n t p push.0)) push.2;
    long = ap length numbers ∙ length-set c.numbers (size p / 25) (Some n) ∙ h.long;
    classes = λ k lt. ap (λ (l : List (Option ℕ)). slice_index_or l k None) numbers ∙ class_after size c.numbers past.events n t p push.0 k h.long lt (h.classes k lt);
    ordered = λ o roomy aging. all o roomy aging;
  },
) where
  all : IsInOrder ((past.events ++ pushed n t p push.0 ∷ []) ++ evicted t ∷ []) → 0 < past.initial → 0 < past.age → AllStored ((past.events ++ pushed n t p push.0 ∷ []) ++ evicted t ∷ [])
  all o roomy aging =
      let o' = order_front 0 0 (past.events ++ pushed n t p push.0 ∷ []) (evicted t) o in
      let w = order_push 0 0 past.events n t p push.0 o' in
      all_evict (past.events ++ pushed n t p push.0 ∷ []) t
      (all_push past.events n t p push.0 (h.ordered (order_front 0 0 past.events (pushed n t p push.0) o') roomy aging)
      (push.1 (record { roomy = roomy; aging = aging; timely = omega (arith, w.1); above = omega (arith, w.0) })))

-- a search for a class
pub found_step : {P : Type 0} (f : ℕ → Option P) (k : ℕ) (p : P) → 0 < k → f (k - 1) ≡ Some p → greatest_below f k ≡ Some p
found_step f zero p some is = absurd (omega arith)
found_step {P} f (suc k) p some is = let at : suc k - 1 ≡ k = omega arith in ap (λ (o : Option P). latter (greatest_below f k) o) (ap f (sym at) ∙ is)

pub missed_step : {P : Type 0} (f : ℕ → Option P) (k : ℕ) → 0 < k → f (k - 1) ≡ None → greatest_below f (k - 1) ≡ greatest_below f k
missed_step f zero some is = absurd (omega arith)
missed_step {P} f (suc k) some is =
    let at : suc k - 1 ≡ k = omega arith in
    ap (λ (i : ℕ). greatest_below f i) at ∙ sym (ap (λ (o : Option P). latter (greatest_below f k) o) (ap f (sym at) ∙ is))

-- the packet for a size
pub choice_is : {P S : Type 0} (stands : S → Past P → Type 0) (value_at : S → ℕ → Option P) (size : P → ℕ) (c : RtxCache P S) (past : Past P) (class : ℕ) → class ≤ 80 → StandsFor stands size c past
    → greatest_below (λ k. option_and_then (packet_at value_at c) (slice_index_or c.numbers k None)) class ≡ greatest_below (λ k. option_and_then (packet_at value_at c) (last_of_class size k past.events)) class
choice_is stands value_at size c past class le h =
    below_same (λ k. option_and_then (packet_at value_at c) (slice_index_or c.numbers k None)) (λ k. option_and_then (packet_at value_at c) (last_of_class size k past.events)) class
    (λ k lt. ap (λ (o : Option ℕ). option_and_then (packet_at value_at c) o) (h.classes k (omega arith)))

then_some : {P : Type 0} (f : ℕ → Option P) (o : Option ℕ) (p : P) → option_and_then f o ≡ Some p → (n : ℕ) × (o ≡ Some n) × (f n ≡ Some p)
then_some f None p h = absurd (let not_so : None ≡ Some p = h in cc)
then_some f (Some n) p h = (n, refl, h)

held_packet : {P S : Type 0} (stands : S → Past P → Type 0) (value_at : S → ℕ → Option P) → ((s : S) (past : Past P) (p : ℕ) → stands s past → HeldAs past p (value_at s p)) → (size : P → ℕ) (c : RtxCache P S) (past : Past P) (n : ℕ) → StandsFor stands size c past → HeldAs past n (packet_at value_at c n)
unfolding packet_at
held_packet stands value_at holds size c past n h = holds c.packets past n h.store

pub smaller_is : {P S : Type 0} (stands : S → Past P → Type 0) (value_at : S → ℕ → Option P) → ((s : S) (past : Past P) (p : ℕ) → stands s past → HeldAs past p (value_at s p)) → (size : P → ℕ) (c : RtxCache P S) (past : Past P) (class : ℕ) (p : P) → StandsFor stands size c past → CachedOnce past.events
    → greatest_below (λ k. option_and_then (packet_at value_at c) (last_of_class size k past.events)) class ≡ Some p → size p / 25 < class
smaller_is {P} stands value_at holds size c past class p h once is =
    let w = some_below (λ k. option_and_then (packet_at value_at c) (last_of_class size k past.events)) class p is in
    let at = then_some (packet_at value_at c) (last_of_class size w.0 past.events) p w.2 in
    let held : HeldAs past at.0 (Some p) = subst (λ (o : Option P). HeldAs past at.0 o) at.2 (held_packet stands value_at holds size c past at.0 h) in
    let same : size p / 25 ≡ w.0 = class_of_last size w.0 at.0 (held.0, p) past.events once at.1 held.1 in
    lower (size p / 25) w.0 class same w.1 where
      lower : (a b c : ℕ) → a ≡ b → b < c → a < c
      lower a b c i j = omega arith

pub none_is : {P S : Type 0} (stands : S → Past P → Type 0) (value_at : S → ℕ → Option P) → ((s : S) (past : Past P) (p : ℕ) → stands s past → HeldAs past p (value_at s p)) → (size : P → ℕ) (c : RtxCache P S) (past : Past P) (class : ℕ) → StandsFor stands size c past → IsInOrder past.events → 0 < past.initial → 0 < past.age
    → greatest_below (λ k. option_and_then (packet_at value_at c) (last_of_class size k past.events)) class ≡ None → NoneKept size past class
none_is {P} stands value_at holds size c past class h order roomy aging none = λ n t p under lt.
    let w = last_after size n 0 0 (t, p) past.events order (h.ordered order roomy aging) under in
    let not_there : option_and_then (packet_at value_at c) (last_of_class size (size p / 25) past.events) ≡ None = none_below (λ k. option_and_then (packet_at value_at c) (last_of_class size k past.events)) (size p / 25) class none lt in
    let gone : packet_at value_at c w.number ≡ None = sym (ap (λ (o : Option ℕ). option_and_then (packet_at value_at c) o) w.last) ∙ not_there in
    let held : HeldAs past w.number None = subst (λ (o : Option P). HeldAs past w.number o) gone (held_packet stands value_at holds size c past w.number h) in
    ⊎_elim
    (λ (old : w.later.stored.0 + past.age < latest_eviction past.events). inl (older t w.later.stored.0 past.age (latest_eviction past.events) w.later.late old))
    (λ (far : w.number + max past.initial past.greatest ≤ _). inr (below n w.number (max past.initial past.greatest) _ w.later.above far))
    (held w.later.stored.0 w.later.stored.1 w.later.under) where
      older : (a b c d : ℕ) → a ≤ b → b + c < d → a + c < d
      older a b c d i j = omega arith

      below : (a b c d : ℕ) → a ≤ b → b + c ≤ d → a + c ≤ d
      below a b c d i j = omega arith
