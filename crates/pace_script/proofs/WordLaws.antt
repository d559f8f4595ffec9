-- What a word of a pace script says is how it is spelled, and the other way round.
use Rattle.std.proofs.Common.{◌≡◌, ℕ, ◌+◌, ◌^◌, ◌<◌, ◌≤◌, min, lit≤, Bool, true, false, cond, ltb, List, [], ◌∷◌, Option, Some, None, refl, sym, ap, ◌∙◌, subst, arith}
use Rattle.std.specs.Prelude.{codes}
use Rattle.std.specs.Fmt.{decimal}
use Rattle.std.specs.Str.{bytes_eq}
use Rattle.std.proofs.lemmas.Bool.{ltb-true, lt-ltb}
use Rattle.media_script.specs.Laws.{WordsAreSpelled}
use Rattle.media_script.specs.Spelling.{IsTime, IsName}
use Rattle.media_script.specs.Words.{◌>>=◌, below, number_of, narrow_of, time_of, name_of}
use Rattle.media_script.specs.Grammar.{and_then}
use Rattle.pace_core.specs.declared.run.PaceQueue.{PaceQueue}
use Rattle.pace_script.specs.Grammar.{mark_in, queue_in, queue_of, queues_of}
use Rattle.pace_script.specs.Spelling.{IsRate, IsMoment, mark_of, IsQueue, AreQueues}
use Rattle.pace_script.specs.Words.{rate_of, moment_of, parts_of}
use Rattle.pace_script.proofs.Basics.{if_some, bind_some, equal, then_some}

mark_spelled : (words : List (List ℕ)) (padding : Bool) → mark_in words ≡ Some padding → words ≡ mark_of padding
mark_spelled [] padding e = let is : false ≡ padding = cc in ap mark_of is
mark_spelled (mark ∷ []) padding e =
    let a = if_some (bytes_eq mark (codes "p")) true padding e in
    ap (λ (w : List ℕ). w ∷ []) (equal mark (codes "p") a.0) ∙ ap mark_of a.1
mark_spelled (mark ∷ more ∷ words) padding e = absurd cc

mark_again : (padding : Bool) → mark_in (mark_of padding) ≡ Some padding
mark_again false = refl
mark_again true = refl

-- behind the mid, the packets and the bytes
abbrev Made : List ℕ → ℕ → ℕ → ℕ → Bool → PaceQueue
Made mid count bytes wait padding = record { mid = mid; count = count; bytes = bytes; wait = wait; padding = padding }

abbrev marked : List ℕ → ℕ → ℕ → ℕ → List (List ℕ) → Option PaceQueue
marked mid count bytes wait marks = mark_in marks >>= λ padding. Some (Made mid count bytes wait padding)

abbrev waiting : List ℕ → ℕ → ℕ → List (List ℕ) → Option PaceQueue
waiting mid count bytes = and_then (narrow_of (10 ^ 18 + 1)) (λ wait. marked mid count bytes wait)

abbrev holding : List ℕ → ℕ → List (List ℕ) → Option PaceQueue
holding mid count = and_then (narrow_of (2 ^ 40)) (λ bytes. waiting mid count bytes)

abbrev counting : List ℕ → List (List ℕ) → Option PaceQueue
counting mid = and_then (narrow_of (2 ^ 32)) (λ count. holding mid count)

module _ (w : WordsAreSpelled) where
  pub rate_spelled : (word : List ℕ) (rate : ℕ) → rate_of word ≡ Some rate → IsRate word rate
  unfolding rate_of
  rate_spelled word rate e =
      let a = bind_some (number_of word) (λ n. Some (min n 10000000000)) rate e in
      let n = w.number_spelled word a.0 a.1 in
      let is : min a.0 10000000000 ≡ rate = cc in
      (a.0, n.0, n.1, sym is)

  pub rate_again : (word : List ℕ) (rate : ℕ) → IsRate word rate → rate_of word ≡ Some rate
  unfolding rate_of
  rate_again word rate is = ap rate_of is.1 ∙ rw (w.number_again is.0 is.2) (ap (λ (r : ℕ). Some r) (sym is.3))

  pub moment_spelled : (word : List ℕ) (now : ℕ) → moment_of word ≡ Some now → IsMoment word now
  unfolding moment_of
  moment_spelled word now e =
      let a = bind_some (time_of word) (λ t. below (10 ^ 16 + 1) t) now e in
      let b = if_some (ltb a.0 (10 ^ 16 + 1)) a.0 now a.2 in
      let small : a.0 < 10 ^ 16 + 1 = ltb-true _ _ b.0 in
      (subst (IsTime word) b.1 (w.time_spelled word a.0 a.1), omega (arith, small, b.1))

  pub moment_again : (word : List ℕ) (now : ℕ) → IsMoment word now → moment_of word ≡ Some now
  unfolding moment_of
  moment_again word now is = rw (w.time_again word now is.0) (ap (λ b. cond b (Some now) None) (lt-ltb _ _ (omega (arith, is.1))))

  queue_spelled : (word : List ℕ) (q : PaceQueue) → queue_of word ≡ Some q → IsQueue word q
  unfolding queue_in
  queue_spelled word q e =
      let m = then_some (name_of 16) counting (parts_of word) q e in
      let c = then_some (narrow_of (2 ^ 32)) (holding m.value) m.rest q m.goes in
      let b = then_some (narrow_of (2 ^ 40)) (waiting m.value c.value) c.rest q c.goes in
      let t = then_some (narrow_of (10 ^ 18 + 1)) (marked m.value c.value b.value) b.rest q b.goes in
      let p = bind_some (mark_in t.rest) (λ padding. Some (Made m.value c.value b.value t.value padding)) q t.goes in
      let is : Made m.value c.value b.value t.value p.0 ≡ q = cc in
      let of = w.name_spelled 16 m.word m.value m.reads in
      let count = w.narrow_spelled (2 ^ 32) c.word c.value c.reads in
      let bytes = w.narrow_spelled (2 ^ 40) b.word b.value b.reads in
      let wait = w.narrow_spelled (10 ^ 18 + 1) t.word t.value t.reads in
      let short : t.value ≤ 10 ^ 18 = omega (arith, wait.1) in
      let waited : b.rest ≡ decimal t.value ∷ mark_of p.0 = t.split ∙ (λ i. wait.0 i ∷ mark_spelled t.rest p.0 p.1 i) in
      let held : c.rest ≡ decimal b.value ∷ decimal t.value ∷ mark_of p.0 = b.split ∙ (λ i. bytes.0 i ∷ waited i) in
      let counted : m.rest ≡ decimal c.value ∷ decimal b.value ∷ decimal t.value ∷ mark_of p.0 = c.split ∙ (λ i. count.0 i ∷ held i) in
      subst (IsQueue word) is (record {
        name = of.1;
        count = count.1;
        bytes = bytes.1;
        wait = short;
        spelled = m.split ∙ (λ i. of.0 i ∷ counted i);
      })

  queue_again : (word : List ℕ) (q : PaceQueue) → IsQueue word q → queue_of word ≡ Some q
  unfolding queue_in
  queue_again word q is =
      ap queue_in is.spelled
      ∙ rw (
        w.name_again 16 q.mid is.name,
        w.narrow_again (2 ^ 32) q.count (lit≤ tt) is.count,
        w.narrow_again (2 ^ 40) q.bytes (lit≤ tt) is.bytes,
        w.narrow_again (10 ^ 18 + 1) q.wait (lit≤ tt) (omega (arith, is.wait)),
      ) (ap (λ (o : Option Bool). o >>= λ padding. Some (Made q.mid q.count q.bytes q.wait padding)) (mark_again q.padding))

  pub queues_spelled : (words : List (List ℕ)) (qs : List PaceQueue) → queues_of words ≡ Some qs → AreQueues words qs
  queues_spelled [] qs e = let is : [] ≡ qs = cc in subst (AreQueues []) is tt
  queues_spelled (word ∷ words) qs e =
      let a = bind_some (queue_of word) (λ q. queues_of words >>= λ rest. Some (q ∷ rest)) qs e in
      let b = bind_some (queues_of words) (λ rest. Some (a.0 ∷ rest)) qs a.2 in
      let is : a.0 ∷ b.0 ≡ qs = cc in
      subst (AreQueues (word ∷ words)) is (queue_spelled word a.0 a.1, queues_spelled words b.0 b.1)

  pub queues_again : (words : List (List ℕ)) (qs : List PaceQueue) → AreQueues words qs → queues_of words ≡ Some qs
  queues_again [] [] are = refl
  queues_again [] (q ∷ qs) are = absurd are
  queues_again (word ∷ words) [] are = absurd are
  queues_again (word ∷ words) (q ∷ qs) are =
      ap (λ (o : Option PaceQueue). o >>= λ x. queues_of words >>= λ rest. Some (x ∷ rest)) (queue_again word q are.0)
      ∙ ap (λ (o : Option (List PaceQueue)). o >>= λ rest. Some (q ∷ rest)) (queues_again words qs are.1)
