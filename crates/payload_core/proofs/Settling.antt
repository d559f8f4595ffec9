-- Padding numbers that are next count as given.
use Rattle.std.proofs.Common.{◌≡◌, ℕ, ◌+◌, ◌-◌, ◌<◌, ◌≤◌, true, false, List, [], ◌∷◌, Some, refl, sym, ◌∙◌, arith, leb, inl, inr}
use Rattle.std.specs.Prelude.{max}
use Rattle.std.proofs.lemmas.Bool.{le-leb, lt-leb, cases_lt, cases_order}
use Rattle.payload_core.specs.Buffer.{settled}
use Rattle.payload_core.specs.History.{NumbersRise}
use Rattle.payload_core.proofs.Entries.{among, among_head, among_tail, among_below}

-- from a last number and padding numbers that rise to a later last number and those above it
pub record Settles (last : ℕ) (ns : List ℕ) (last' : ℕ) (ns' : List ℕ) : Type 0 where
  pub follows : last ≤ last'
  pub between : (m : ℕ) → last < m → m ≤ last' → among m ns ≡ true
  pub ends : among (last' + 1) ns ≡ false
  pub above : (m : ℕ) → last' < m → among m ns' ≡ among m ns
  pub passed : (m : ℕ) → m ≤ last' → among m ns' ≡ false
  pub rise : NumbersRise 0 ns'

pub record IsSettled (last : ℕ) (ns : List ℕ) : Type 0 where
  pub last_then : ℕ
  pub ns_then : List ℕ
  pub is : settled (Some last) ns ≡ (Some last_then, ns_then)
  pub settles : Settles last ns last_then ns_then

stays : (last n : ℕ) (ns : List ℕ) → last + 1 < n → NumbersRise n (n ∷ ns) → Settles last (n ∷ ns) last (n ∷ ns)
stays last n ns lt r = record {
  follows = omega arith;
  between = λ m l h. absurd (omega arith);
  ends = among_below (n ∷ ns) n (last + 1) r lt;
  above = λ m l. refl;
  passed = λ m l. among_below (n ∷ ns) n m r (omega arith);
  rise = (omega arith, r.1);
}

more : (last n last' : ℕ) (ns ns' : List ℕ) → n ≤ last + 1 → Settles (max last n) ns last' ns' → Settles last (n ∷ ns) last' ns'
more last n last' ns ns' le s =
    let follows : max last n ≤ last' = s.follows in record {
      follows = omega (arith, s.follows);
      between = λ m l h. elim (cases_order m n) [
        | inl same ↦ among_head m n ns same
        | inr o ↦
            let other : m ≡ n → ⊥ = λ e. elim o [ inl lt ↦ omega arith | inr gt ↦ omega arith ] in
            among_tail m n ns other ∙ s.between m (elim o [ inl lt ↦ omega arith | inr gt ↦ omega arith ]) h
      ];
      ends = among_tail (last' + 1) n ns (λ e. omega (arith, s.follows)) ∙ s.ends;
      above = λ m l. s.above m l ∙ sym (among_tail m n ns (λ e. omega (arith, s.follows)));
      passed = s.passed;
      rise = s.rise;
    }

pub settles : (ns : List ℕ) (last from : ℕ) → NumbersRise from ns → IsSettled last ns
settles [] last from r = record {
  last_then = last;
  ns_then = [];
  is = refl;
  settles = record {
    follows = omega arith;
    between = λ m l h. absurd (omega arith);
    ends = refl;
    above = λ m l. refl;
    passed = λ m l. refl;
    rise = tt;
  };
}
settles (n ∷ ns) last from r = elim (cases_lt (last + 1) n) [
  | inl gap ↦
      let t : leb (n - last) 1 ≡ false = lt-leb (n - last) 1 (omega arith) in record {
        last_then = last;
        ns_then = n ∷ ns;
        is = rw t refl;
        settles = stays last n ns gap (omega arith, r.1);
      }
  | inr next ↦
      let t : leb (n - last) 1 ≡ true = le-leb (n - last) 1 (omega arith) in
      let later = settles ns (max last n) (n + 1) r.1 in record {
        last_then = later.last_then;
        ns_then = later.ns_then;
        is = rw t later.is;
        settles = more last n later.last_then ns later.ns_then next later.settles;
      }
]
