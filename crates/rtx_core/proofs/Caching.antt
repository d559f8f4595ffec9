-- A packet that is counted, and counted back where it was not cached.
use Rattle.std.proofs.Common.{◌≡◌, ℕ, ◌<◌, ◌^◌, List, [], ◌∷◌, ◌++◌, length, take, Option, Some, None, refl, sym, ap, ◌∙◌, subst}
use Rattle.std.proofs.lemmas.List.{length-append}
use Rattle.std.proofs.Math.Seq.{take-append_seam}
use Rattle.std.specs.Prelude.{◌-◌, ◌+◌}
use Rattle.std.specs.Option.{option_map}
use Rattle.std.proofs.Common.{arith}
use Rattle.resend_core.specs.ResendStore.{Past, pushed, evicted, with_event}
use Rattle.resend_core.specs.RtxCache.{IsCached, StandsFor as CacheStandsFor}
use Rattle.resend_core.specs.declared.rtx_cache.RtxCache.{RtxCache}
use Rattle.rtx_core.specs.Ratio.{CapRecord, with_pushed, without_pushed, without_last, forgetting, with_sent}
use Rattle.rtx_core.specs.Resends.{ResendState, ResendView, ResendRecord, StandsFor, Caches, cached, after_first}
use Rattle.rtx_core.proofs.Holding.{numbers_snoc}

without_pushed_last : (es : List (ℕ × ℕ)) (e : ℕ × ℕ) → without_last (es ++ e ∷ []) ≡ es
without_pushed_last es e = ap (λ n. take n (es ++ e ∷ [])) (one_less (length es) (length (es ++ e ∷ [])) (length-append es (e ∷ []))) ∙ take-append_seam es (e ∷ []) where
  one_less : (n m : ℕ) → m ≡ n + 1 → m - 1 ≡ n
  one_less n m h = omega (arith, h)

pub counted_back : (now bytes : ℕ) (cap : Option CapRecord) → option_map without_pushed (option_map (with_pushed now bytes) cap) ≡ cap
counted_back now bytes None = refl
counted_back now bytes (Some c) = ap (λ es. Some (record c { sent = es })) (without_pushed_last c.sent (now, bytes))

pub forgotten : (now bytes : ℕ) (cap : Option CapRecord) → option_map (forgetting now) (option_map (with_pushed now bytes) cap) ≡ option_map (with_sent now bytes) cap
forgotten now bytes None = refl
forgotten now bytes (Some c) = refl

-- counted, cached, and what counts no more forgotten
module _ {P S : Type 0} (stands_for : S → Past P → Type 0) (size number : P → ℕ) (now : ℕ) (p : P) (bytes : ℕ) (long : bytes ≡ size p) where
  state_is : {C : Type 0} (s counted kept new : ResendView C) → counted ≡ record s { state = record s.state { cap = option_map (with_pushed now bytes) s.state.cap } } → kept.state ≡ counted.state
      → new ≡ record kept { state = record kept.state { cap = option_map (forgetting now) kept.state.cap } } → new.state ≡ after_first now (size p) s.state
  state_is {C} s counted kept new c k n =
      ap (λ v. v.state) n
      ∙ ap (λ (t : ResendState). record t { cap = option_map (forgetting now) t.cap }) (k ∙ ap (λ v. v.state) c)
      ∙ ap (λ o. record s.state { cap = o }) (forgotten now bytes s.state.cap)
      ∙ ap (λ b. after_first now b s.state) long

  pub caches_is : (s counted kept new : ResendView (RtxCache P S)) (r : ResendRecord P) → StandsFor stands_for size s r → number p < 2 ^ 48
      → counted ≡ record s { state = record s.state { cap = option_map (with_pushed now bytes) s.state.cap } } → kept.state ≡ counted.state
      → ((past : Past P) → CacheStandsFor stands_for size counted.cache past → IsCached stands_for size past (number p) now p kept.cache)
      → new ≡ record kept { state = record kept.state { cap = option_map (forgetting now) kept.state.cap } }
      → (after : ResendRecord P) × Caches size number now p r after × StandsFor stands_for size new after
  caches_is s counted kept new r h small c k is n =
      let mine = is r.cache (subst (λ k. CacheStandsFor stands_for size k r.cache) (sym (ap (λ v. v.cache) c)) h.cache) in (
        record { state = after_first now (size p) r.state; cache = with_event (with_event r.cache (pushed (number p) now p mine.0)) (evicted now) },
        cached mine.0 mine.1,
        record {
          state = state_is s counted kept new c k n ∙ ap (after_first now (size p)) h.state;
          cache =
              subst (λ k. CacheStandsFor stands_for size k (with_event (with_event r.cache (pushed (number p) now p mine.0)) (evicted now))) (sym (ap (λ v. v.cache) n)) mine.2;
          numbers = numbers_snoc r.cache.events (number p) now now p mine.0 h.numbers small;
        },
      )
