-- What is kept of the numbers of a stream, one datagram after another.
use Rattle.std.proofs.Common.{◌≡◌, ℕ, Bool, true, false, max, ◌||◌, List, [], ◌∷◌, ◌++◌, Option, Some, None, refl, sym, ap, ◌∙◌, arith, nat_lt}
use Rattle.std.specs.Prelude.{◌==◌, if◌then◌else◌}
use Rattle.std.proofs.lemmas.Bool.Decides.{nat_tests}
use Rattle.repair_core.specs.Fresh.{greatest, greatest_of, is_fresh, started_from}
use Rattle.run_model.specs.Events.{Incoming}
use Rattle.run_model.specs.Receiving.{Lists, begun_taken, begun_with, after_first, with_tried as lists_tried, with_restored as lists_restored}
use Rattle.run_widens.specs.declared.taken.Taken.{Taken}
use Rattle.run_widens.specs.Taken.{greater, with_first, with_tried, with_restored, is_begun, taken_of}

max_assoc : (a b c : ℕ) → max a (max b c) ≡ max (max a b) c
max_assoc a b c = omega arith

max_zero : (n : ℕ) → max n 0 ≡ n
max_zero n = omega arith

greatest_more : (ns : List ℕ) (n : ℕ) → greatest (ns ++ n ∷ []) ≡ max (greatest ns) n
greatest_more [] n = omega arith
greatest_more (m ∷ ns) n = ap (max m) (greatest_more ns n) ∙ max_assoc m (greatest ns) n

of_more : (ns : List ℕ) (n : ℕ) → greatest_of (ns ++ n ∷ []) ≡ greater (greatest_of ns) n
of_more [] n = ap Some (max_zero n)
of_more (m ∷ ns) n = ap Some (greatest_more (m ∷ ns) n)

begun_more : (ns : List ℕ) (n : ℕ) → is_begun (ns ++ n ∷ []) ≡ true
begun_more [] n = refl
begun_more (m ∷ ns) n = refl

begun_same : (seen : Option ℕ) (ns : List ℕ) (n : ℕ) → begun_with seen (ns ++ n ∷ []) ≡ ns ++ n ∷ []
begun_same seen [] n = refl
begun_same seen (m ∷ ns) n = refl

made : (g h : Option ℕ) (b d : Bool) → g ≡ h → b ≡ d → let t : Taken = record { greatest = g; begun = b } in t ≡ record { greatest = h; begun = d }
made g h b d p q = λ i. record { greatest = p i; begun = q i }

-- a datagram that is no repair
pub of_first : (l : Lists) (n : ℕ) → taken_of (after_first l n) ≡ with_first n (taken_of l)
of_first l n =
    made _ _ _ _ (ap greatest_of (begun_same (greatest_of (l.seen_main ++ n ∷ [])) (begun_taken l) n) ∙ of_more (begun_taken l) n) (begun_more (begun_taken l) n)

started : (seen : Option ℕ) → greatest_of (started_from seen) ≡ seen
started None = refl
started (Some n) = ap Some (max_zero n)

-- what is kept of the numbers that were seen and taken
abbrev kept : List ℕ → List ℕ → Taken
kept seen taken = record { greatest = greatest_of (begun_with (greatest_of seen) taken); begun = is_begun taken }

tried : (b : Bool) (seen taken : List ℕ) (n : ℕ) → kept (if b then seen ++ n ∷ [] else seen) taken ≡ with_tried b n (kept seen taken)
tried false seen taken n = refl
tried true seen [] n =
    made _ _ _ _ (started (greatest_of (seen ++ n ∷ [])) ∙ of_more seen n ∙ ap (λ g. greater g n) (sym (started (greatest_of seen)))) refl
tried true seen (m ∷ ms) n = refl

-- the own number of a repair
pub of_tried : (L : Incoming) (l : Lists) (ssrc n : ℕ) → taken_of (lists_tried L l ssrc n) ≡ with_tried (ssrc == L.ssrc) n (taken_of l)
of_tried L l ssrc n = tried (ssrc == L.ssrc) l.seen_main l.taken n

one_fresh : (s q : ℕ) → is_fresh (s ∷ []) q ≡ nat_lt (max s 0) q
one_fresh s q = grind (arith, nat_tests)

low : (g q : ℕ) → nat_lt g q ≡ false → max g q ≡ g
low g q e = grind (arith, nat_tests)

stale : (g q : ℕ) (rest : Bool) → (nat_lt g q || rest) ≡ false → nat_lt g q ≡ false
stale g q rest e = go (nat_lt g q) e where
  go : (b : Bool) → (b || rest) ≡ false → b ≡ false
  go false e' = refl
  go true e' = absurd cc

first_restored : (seen : List ℕ) (g : Option ℕ) (q : ℕ) → greatest_of seen ≡ g
    → kept (seen ++ q ∷ []) (if is_fresh (started_from g) q then started_from g ++ q ∷ [] else []) ≡ with_restored q (record { greatest = greatest_of (started_from g); begun = false })
first_restored seen None q e = made _ _ _ _ (ap Some (max_zero q)) refl
first_restored seen (Some s) q e = go (is_fresh (s ∷ []) q) refl where
  go : (b : Bool) → is_fresh (s ∷ []) q ≡ b → kept (seen ++ q ∷ []) (if b then s ∷ q ∷ [] else []) ≡ with_restored q (record { greatest = greatest_of (started_from (Some s)); begun = false })
  go true f = made _ _ _ _ (ap Some (greatest_more (s ∷ []) q)) (sym (sym (one_fresh s q) ∙ f))
  go false f =
      made _ _ _ _ (started (greatest_of (seen ++ q ∷ [])) ∙ of_more seen q ∙ ap (λ g. greater g q) (e ∙ sym (started (Some s)))) (sym (sym (one_fresh s q) ∙ f))

next_restored : (seen : List ℕ) (m : ℕ) (ms : List ℕ) (q : ℕ)
    → kept (seen ++ q ∷ []) (if is_fresh (m ∷ ms) q then (m ∷ ms) ++ q ∷ [] else (m ∷ ms)) ≡ with_restored q (kept seen (m ∷ ms))
next_restored seen m ms q = go (is_fresh (m ∷ ms) q) refl where
  go : (b : Bool) → is_fresh (m ∷ ms) q ≡ b → kept (seen ++ q ∷ []) (if b then (m ∷ ms) ++ q ∷ [] else (m ∷ ms)) ≡ with_restored q (kept seen (m ∷ ms))
  go true f = made _ _ _ _ (of_more (m ∷ ms) q) refl
  go false f = made _ _ _ _ (ap Some (sym (low (greatest (m ∷ ms)) q (stale (greatest (m ∷ ms)) q _ f)))) refl

restored_of : (seen taken : List ℕ) (q : ℕ)
    → kept (seen ++ q ∷ []) (if is_fresh (begun_with (greatest_of seen) taken) q then begun_with (greatest_of seen) taken ++ q ∷ [] else taken) ≡ with_restored q (kept seen taken)
restored_of seen [] q = first_restored seen (greatest_of seen) q refl
restored_of seen (m ∷ ms) q = next_restored seen m ms q

-- the number that a repair restores
pub of_restored : (l : Lists) (q : ℕ) → taken_of (lists_restored l (Some q)) ≡ with_restored q (taken_of l)
of_restored l q = restored_of l.seen_main l.taken q
