-- What is held is what the history of the cache says.
use Rattle.std.proofs.Common.{◌≡◌, ℕ, ◌<◌, ◌^◌, List, [], ◌∷◌, ◌++◌, Option, Some, None, refl, sym, ap, ◌∙◌, subst}
use Rattle.std.specs.Prelude.{Bool, true, false}
use Rattle.std.specs.Option.{option_map, option_map_or, option_to_list}
use Rattle.resend_core.specs.ResendStore.{Event, pushed, evicted, Past, HeldAs, last_position, stored_at, latter}
use Rattle.resend_core.specs.RtxCache.{packet_at, StandsFor as CacheStandsFor}
use Rattle.resend_core.specs.declared.rtx_cache.RtxCache.{RtxCache}
use Rattle.rtx_core.specs.declared.resend.Resend.{Resend}
use Rattle.rtx_core.specs.Resends.{AreNumbers, ResendView, ResendRecord, StandsFor, asked_for, unless_capped, next_of, IsNext, Asks, none, gone, held, FirstHeld, none_held, passed, found, first_held, resend_of, resends_of}

-- by the law of the store
pub held_in : {P S : Type 0} (stands_for : S → Past P → Type 0) (value_at : S → ℕ → Option P) → ((s : S) (past : Past P) (n : ℕ) → stands_for s past → HeldAs past n (value_at s n))
    → (c : RtxCache P S) (past : Past P) → stands_for c.packets past → (n : ℕ) → HeldAs past n (packet_at value_at c n)
unfolding packet_at
held_in stands_for value_at holds c past h n = holds c.packets past n h

module _ {P : Type 0} (past : Past P) (at : ℕ → Option P) (all : (n : ℕ) → HeldAs past n (at n)) where
  first_of : (r : Resend) (rs : List Resend) (o : Option P) → at r.seq_no ≡ o → FirstHeld past rs (first_held at rs) → FirstHeld past (r ∷ rs) (option_map_or (λ p. Some (p, rs)) o (first_held at rs))
  first_of r rs None is rest = passed r rs (first_held at rs) (subst (HeldAs past r.seq_no) is (all r.seq_no)) rest
  first_of r rs (Some p) is rest = found r rs p (subst (HeldAs past r.seq_no) is (all r.seq_no))

  pub first_is : (rs : List Resend) → FirstHeld past rs (first_held at rs)
  first_is [] = none_held
  first_is (r ∷ rs) = first_of r rs (at r.seq_no) refl (first_is rs)

  asks_more : (size : P → ℕ) (now n : ℕ) (ns : List ℕ) (o : Option P) → at n ≡ o → Asks size now past ns (resends_of size now at ns)
      → Asks size now past (n ∷ ns) (option_to_list (option_map (resend_of size now n) o) ++ resends_of size now at ns)
  asks_more size now n ns None is rest = gone n ns (resends_of size now at ns) (subst (HeldAs past n) is (all n)) rest
  asks_more size now n ns (Some p) is rest = held n ns (resends_of size now at ns) p (subst (HeldAs past n) is (all n)) rest

  pub asks_are : (size : P → ℕ) (now : ℕ) (ns : List ℕ) → Asks size now past ns (resends_of size now at ns)
  asks_are size now [] = none
  asks_are size now (n ∷ ns) = asks_more size now n ns (at n) refl (asks_are size now ns)

-- the number that was stored last has 48 bits where all have
last_small_in : {P : Type 0} (e : Event P) (es : List (Event P)) (n : ℕ) → AreNumbers (e ∷ es) → ((k : ℕ) → last_position es ≡ Some k → k < 2 ^ 48) → last_position (e ∷ es) ≡ Some n → n < 2 ^ 48
last_small_in {P} e es n small rest h = pick (last_position es) refl h where
  here : (e : Event P) → AreNumbers (e ∷ es) → stored_at e ≡ Some n → n < 2 ^ 48
  here (pushed m t p true) small h = let same : m ≡ n = cc in subst (λ k. k < 2 ^ 48) same small.0
  here (pushed m t p false) small h = absurd cc
  here (evicted t) small h = absurd cc

  pick : (o : Option ℕ) → last_position es ≡ o → latter (stored_at e) o ≡ Some n → n < 2 ^ 48
  pick None is h = here e small h
  pick (Some k) is h = let same : k ≡ n = cc in subst (λ k. k < 2 ^ 48) same (rest k is)

pub last_small : {P : Type 0} (es : List (Event P)) (n : ℕ) → AreNumbers es → last_position es ≡ Some n → n < 2 ^ 48
last_small [] n small h = absurd cc
last_small (pushed m t p stored ∷ es) n small h = last_small_in (pushed m t p stored) es n small (λ k. last_small es k small.1) h
last_small (evicted t ∷ es) n small h = last_small_in (evicted t) es n small (λ k. last_small es k small) h

pub numbers_snoc : {P : Type 0} (es : List (Event P)) (n t u : ℕ) (p : P) (stored : Bool) → AreNumbers es → n < 2 ^ 48 → AreNumbers ((es ++ pushed n t p stored ∷ []) ++ evicted u ∷ [])
numbers_snoc [] n t u p stored small lt = (lt, tt)
numbers_snoc (pushed m v q s ∷ es) n t u p stored small lt = (small.0, numbers_snoc es n t u p stored small.1 lt)
numbers_snoc (evicted v ∷ es) n t u p stored small lt = numbers_snoc es n t u p stored small lt

-- what is asked for, by what happened to the cache
pub asks_is : {P S : Type 0} (stands_for : S → Past P → Type 0) (value_at : S → ℕ → Option P) → ((s : S) (past : Past P) (n : ℕ) → stands_for s past → HeldAs past n (value_at s n)) → (size : P → ℕ) (now : ℕ) (ns : List ℕ)
    → (s new : ResendView (RtxCache P S)) (r : ResendRecord P) → StandsFor stands_for size s r → new.state ≡ asked_for (resends_of size now (packet_at value_at s.cache) ns) s.state → new.cache ≡ s.cache
    → (more : List Resend) × Asks size now r.cache ns more × StandsFor stands_for size new (record r { state = asked_for more r.state })
asks_is stands_for value_at holds size now ns s new r h asked same =
    let more = resends_of size now (packet_at value_at s.cache) ns in (
      more,
      asks_are r.cache (packet_at value_at s.cache) (held_in stands_for value_at holds s.cache r.cache h.cache.store) size now ns,
      record {
        state = asked ∙ ap (asked_for more) h.state;
        cache = subst (λ c. CacheStandsFor stands_for size c r.cache) (sym same) h.cache;
        numbers = h.numbers;
      },
    )

-- what is sent again next, by what happened to the cache
pub next_is : {P S : Type 0} (stands_for : S → Past P → Type 0) (value_at : S → ℕ → Option P) → ((s : S) (past : Past P) (n : ℕ) → stands_for s past → HeldAs past n (value_at s n)) → (size : P → ℕ) (now : ℕ)
    → (s : ResendView (RtxCache P S)) (r : ResendRecord P) → StandsFor stands_for size s r → IsNext now r (next_of now (packet_at value_at s.cache) s.state)
next_is stands_for value_at holds size now s r h =
    let at = packet_at value_at s.cache in
    let found = first_held at s.state.resends in (
      found,
      subst (λ t. FirstHeld r.cache t.resends found) h.state (first_is r.cache at (held_in stands_for value_at holds s.cache r.cache h.cache.store) s.state.resends),
      ap (λ t. unless_capped now t found) h.state,
    )
