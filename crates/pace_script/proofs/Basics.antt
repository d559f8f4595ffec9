-- Options, words and lists.
use Rattle.std.proofs.Common.{◌≡◌, ℕ, Bool, true, false, cond, List, [], ◌∷◌, Option, Some, None, refl}
use Rattle.std.specs.Str.{bytes_eq}
use Rattle.std.proofs.lemmas.Slice.Eq.{bytes_eq-Decides}
use Rattle.std.proofs.Math.Dec.{eqb-suc-zero}
use Rattle.std.proofs.Common.{eqb, length}
use Rattle.media_script.specs.Grammar.{and_then, done}
use Rattle.media_script.specs.Words.{◌>>=◌}

pub if_some : {X : Type 0} (b : Bool) (x y : X) → cond b (Some x) None ≡ Some y → (b ≡ true) × (x ≡ y)
if_some true x y e = (refl, cc)
if_some false x y e = absurd cc

pub bind_some : {X Y : Type 0} (r : Option X) (f : X → Option Y) (y : Y) → (r >>= f) ≡ Some y → (x : X) × (r ≡ Some x) × (f x ≡ Some y)
bind_some (Some x) f y e = (x, refl, e)
bind_some None f y e = absurd cc

pub equal : (a b : List ℕ) → bytes_eq a b ≡ true → a ≡ b
equal a b e = (bytes_eq-Decides a b).0 e

pub nothing : {X : Type 0} (xs : List X) → eqb (length xs) 0 ≡ true → xs ≡ []
nothing [] e = refl
nothing (x ∷ xs) e = absurd (cc (e, eqb-suc-zero (length xs)))

-- a first word was read, and then the others
pub record Then {A L : Type 0} (read : List ℕ → Option A) (more : A → List (List ℕ) → Option L) (words : List (List ℕ)) (said : L) : Type 0 where
  pub word : List ℕ
  pub rest : List (List ℕ)
  pub value : A
  pub split : words ≡ word ∷ rest
  pub reads : read word ≡ Some value
  pub goes : more value rest ≡ Some said

pub then_some : {A L : Type 0} (read : List ℕ → Option A) (more : A → List (List ℕ) → Option L) (words : List (List ℕ)) (said : L)
    → and_then read more words ≡ Some said → Then read more words said
then_some read more [] said e = absurd cc
then_some read more (word ∷ words) said e =
    let a = bind_some (read word) (λ x. more x words) said e in
    record { word = word; rest = words; value = a.0; split = refl; reads = a.1; goes = a.2 }

pub done_some : {L : Type 0} (l said : L) (words : List (List ℕ)) → done l words ≡ Some said → (words ≡ []) × (l ≡ said)
done_some l said [] e = (refl, cc)
done_some l said (word ∷ words) e = absurd cc
