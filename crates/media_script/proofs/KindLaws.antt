-- What the words of a line say is how it is spelled.
use Rattle.std.proofs.Common.{◌≡◌, ℕ, Bool, true, false, cond, List, [], ◌∷◌, ◌++◌, Option, Some, refl, sym, subst}
use Rattle.std.specs.List.{AllByRecursion}
use Rattle.std.specs.Str.{bytes_eq}
use Rattle.media_script.specs.Words.{◌>>=◌}
use Rattle.std.specs.Prelude.{is_some}
use Rattle.media_script.specs.Grammar.{and_then, done, named_type, behind, with_type, with_flag, look_up, no_other}
use Rattle.media_script.specs.Spelling.{IsNamedType, flag_words}
use Rattle.media_script.proofs.WordLaws.{bind_some, equal, named_type_spelled}

-- what these words say is spelled so
pub record Tells {L : Type 0} (read : List (List ℕ) → Option L) (Is : List (List ℕ) → L → Type 0) : Type 0 where
  pub tells : (words : List (List ℕ)) (said : L) → read words ≡ Some said → Is words said

module _ {L : Type 0} where
  pub done_tells : {l : L} {Is : List (List ℕ) → L → Type 0} → Is [] l → Tells (done l) Is
  done_tells {l = l} {Is = Is} is = record { tells = go } where
    go : (words : List (List ℕ)) (said : L) → done l words ≡ Some said → Is words said
    go [] said e = let same : l ≡ said = cc in subst (Is []) same is
    go (word ∷ words) said e = absurd cc

  pub then_tells : {A : Type 0} {read : List ℕ → Option A} {Spells : List ℕ → A → Type 0} {more : A → List (List ℕ) → Option L} {Is : List (List ℕ) → L → Type 0}
      → ((word : List ℕ) (x : A) → read word ≡ Some x → Spells word x)
      → ((word : List ℕ) (x : A) → Spells word x → Tells (more x) (λ words. Is (word ∷ words))) → Tells (and_then read more) Is
  then_tells {read = read} {more = more} {Is = Is} spelled rest = record { tells = go } where
    go : (words : List (List ℕ)) (said : L) → and_then read more words ≡ Some said → Is words said
    go [] said e = absurd cc
    go (word ∷ words) said e =
        let p = bind_some (read word) (λ x. more x words) said e in
        (rest word p.0 (spelled word p.0 p.1)).tells words said p.2

  pub rest_tells : {A : Type 0} {read : List (List ℕ) → Option A} {Is : List (List ℕ) → L → Type 0} (f : A → L)
      → ((words : List (List ℕ)) (x : A) → read words ≡ Some x → Is words (f x)) → Tells (λ words. read words >>= λ x. Some (f x)) Is
  rest_tells {read = read} {Is = Is} f is = record { tells = go } where
    go : (words : List (List ℕ)) (said : L) → (read words >>= λ x. Some (f x)) ≡ Some said → Is words said
    go words said e =
        let p = bind_some (read words) (λ x. Some (f x)) said e in
        let same : f p.0 ≡ said = cc in
        subst (Is words) same (is words p.0 p.1)

  -- a word that may stand there, and what stands behind it
  pub named_type_tells : (name : List ℕ) {more : Option ℕ → List (List ℕ) → Option L} {Is : List (List ℕ) → L → Type 0}
      → ((r : List (List ℕ)) (x : Option ℕ) → IsNamedType name r x → Tells (more x) (λ words. Is (r ++ words))) → Tells (with_type name more) Is
  named_type_tells name {more = more} {Is = Is} rest = record { tells = go } where
    go : (words : List (List ℕ)) (said : L) → with_type name more words ≡ Some said → Is words said
    go words said e =
        let b = bind_some (named_type name words) (λ pt. more pt (behind (is_some pt) words)) said e in
        let is = named_type_spelled name words b.0 b.1 in
        subst (λ ws. Is ws said) (sym is.2) ((rest is.0 b.0 is.1).tells (behind (is_some b.0) words) said b.2)

  pub flag_tells : (name : List ℕ) {more : Bool → List (List ℕ) → Option L} {Is : List (List ℕ) → L → Type 0}
      → ((b : Bool) → Tells (more b) (λ words. Is (flag_words name b ++ words))) → Tells (with_flag name more) Is
  flag_tells name {more = more} {Is = Is} rest = record { tells = go } where
    go : (words : List (List ℕ)) (said : L) → with_flag name more words ≡ Some said → Is words said
    go [] said e = (rest false).tells [] said e
    go (word ∷ words) said e = flag (bytes_eq word name) refl e
      where
        flag : (b : Bool) → bytes_eq word name ≡ b → more b (behind b (word ∷ words)) ≡ Some said → Is (word ∷ words) said
        flag true t is = subst (λ w. Is (w ∷ words) said) (sym (equal word name t)) ((rest true).tells words said is)
        flag false f is = (rest false).tells (word ∷ words) said is

module _ {L : Type 0} (Is : List (List ℕ) → L → Type 0) where
  -- the words behind this first word
  abbrev pub TellsBehind : List ℕ × (List (List ℕ) → Option L) → Type 0
  TellsBehind k = Tells k.1 (λ words. Is (k.0 ∷ words))

  pub look_up_tells : (other : List (List ℕ) → Option L) (kinds : List (List ℕ × (List (List ℕ) → Option L))) → AllByRecursion TellsBehind kinds
      → ((words : List (List ℕ)) (said : L) → other words ≡ Some said → Is words said)
      → (words : List (List ℕ)) (said : L) → look_up other kinds words ≡ Some said → Is words said
  look_up_tells other [] all rest [] said e = absurd cc
  look_up_tells other (k ∷ kinds) all rest [] said e = absurd cc
  look_up_tells other [] all rest (kind ∷ words) said e = rest (kind ∷ words) said e
  look_up_tells other (k ∷ kinds) all rest (kind ∷ words) said e =
      go (look_up_tells other kinds all.1 rest (kind ∷ words) said) (bytes_eq kind k.0) refl e where
        go : (look_up other kinds (kind ∷ words) ≡ Some said → Is (kind ∷ words) said) → (b : Bool) → bytes_eq kind k.0 ≡ b
            → cond b (k.1 words) (look_up other kinds (kind ∷ words)) ≡ Some said → Is (kind ∷ words) said
        go next true p e' = subst (λ t. Is (t ∷ words) said) (sym (equal kind k.0 p)) (all.0.tells words said e')
        go next false p e' = next e'

  pub none_tells : (words : List (List ℕ)) (said : L) → no_other words ≡ Some said → Is words said
  none_tells words said e = absurd cc
