-- Rows of a name.
use Rattle.std.proofs.Common.{◌≡◌, ℕ, ◌+◌, ◌<◌, ◌≤◌, List, [], ◌∷◌, ◌++◌, length, get_or, take, codes, sym, ap, ◌∙◌, subst, inl, inr}
use Rattle.std.specs.List.{Contains}
use Rattle.std.proofs.lemmas.List.{take_more, take_all}
use Rattle.std.proofs.lemmas.List.Elements.{Contains-push_cases}
use Rattle.mediabench.specs.declared.command.Command.{Command}
use Rattle.mediabench.specs.declared.command.Command.TheVariants.{Rows, RunAll, RunOne}
use Rattle.mediabench.specs.declared.table.Row.{Row}
use Rattle.mediabench.specs.Command.{IsCommand, IsNamed, IsThere, AsksForSome}

-- none of the rows up to one has the name, where none before it has it, nor itself
pub one_more : (rows : List Row) (i : ℕ) (d : Row) (name : List ℕ) → i < length rows → ((row : Row) → IsNamed (take i rows) name row → ⊥)
    → ((get_or rows i d).name.now ≡ name → ⊥) → (row : Row) → IsNamed (take (i + 1) rows) name row → ⊥
one_more rows i d name lt none other row is =
    let Among : List Row → Type 0 = λ rs. Contains rs row in
    let among : Among (take i rows ++ get_or rows i d ∷ []) = subst Among (take_more rows i d lt) is.0 in
    elim (Contains-push_cases (take i rows) (get_or rows i d) row among) [
      | inl before ↦ none row (before, is.1)
      | inr same ↦ other (ap (λ (r : Row). r.name.now) same ∙ is.1)
    ]

-- none of all rows has the name, where none of so many has it
pub none_of_all : (rows : List Row) (i : ℕ) (name : List ℕ) → length rows ≤ i → ((row : Row) → IsNamed (take i rows) name row → ⊥)
    → (row : Row) → IsNamed rows name row → ⊥
none_of_all rows i name all none row is =
    let Among : List Row → Type 0 = λ rs. Contains rs row in
    none row (subst Among (sym (take_all i rows all)) is.0, is.1)

-- words that name one row ask for no other command, nor for another row
refuted : (table : List Row) (words : List (List ℕ)) (name : List ℕ) (command : Command) → words ≡ codes "run" ∷ name ∷ []
    → ((row : Row) → IsNamed table name row → ⊥) → IsCommand words command → IsThere table command → ⊥
refuted table words name Rows is none said there = cc
refuted table words name RunAll is none said there = cc
refuted table words name (RunOne other) is none said there =
    let same : other.now ≡ name = cc in
    none there.0 (there.1.0, there.1.1 ∙ same)

pub asks_for_none : (table : List Row) (words : List (List ℕ)) (name : List ℕ) → words ≡ codes "run" ∷ name ∷ []
    → ((row : Row) → IsNamed table name row → ⊥) → AsksForSome table words → ⊥
asks_for_none table words name is none asks = refuted table words name asks.0 is none asks.1 asks.2
