-- Lines that are taken one by one fit one behind the other.
use Rattle.std.proofs.Common.{◌≡◌, Bool, true, false, ◌&&◌, List, [], ◌∷◌, ◌++◌, Option, Some, refl, ap, ◌∙◌, subst}
use Rattle.std.specs.List.{fold}
use Rattle.media_script.specs.declared.said.Said.{Said}
use Rattle.media_script.specs.declared.setup_line.SetupLine.{SetupLine}
use Rattle.media_script.specs.Order.{slot, needs, gives, is_free, is_met, has_room, none_said, after, said_by, fits, with_line, AreInOrder}
use Rattle.media_script.specs.Words.{◌>>=◌}
use Rattle.media_script.proofs.WordLaws.{bind_some, if_some}

-- these lines, one after the other
abbrev pub takes : Said → List SetupLine → Option Said
takes said [] = Some said
takes said (l ∷ lines) = with_line said l >>= λ more. takes more lines

-- behind the lines that were said, each of these fits
abbrev Fit : Said → List SetupLine → Type 0
Fit said lines = (before behind : List SetupLine) (l : SetupLine) → lines ≡ before ++ l ∷ behind → fits (fold after said before) l ≡ true

no_middle : (before behind : List SetupLine) (l : SetupLine) → [] ≡ before ++ l ∷ behind → ⊥
no_middle [] behind l e = cc
no_middle (b ∷ before) behind l e = cc

fit_more : (said : Said) (lines : List SetupLine) (l : SetupLine) → fits said l ≡ true → Fit (after said l) lines → Fit said (l ∷ lines)
fit_more said lines l here rest [] behind m e =
    let is : l ≡ m = cc in
    subst (λ (x : SetupLine). fits said x ≡ true) is here
fit_more said lines l here rest (b ∷ before) behind m e =
    let is : l ≡ b = cc in
    let more : lines ≡ before ++ m ∷ behind = cc in
    subst (λ (x : SetupLine). fits (fold after (after said x) before) m ≡ true) is (rest before behind m more)

taken_fit : (lines : List SetupLine) (said all : Said) → takes said lines ≡ Some all → (all ≡ fold after said lines) × Fit said lines
taken_fit [] said all e =
    let is : all ≡ said = cc in
    (is, λ before behind l q. absurd (no_middle before behind l q))
taken_fit (l ∷ lines) said all e =
    let a = bind_some (with_line said l) (λ more. takes more lines) all e in
    let b = if_some (fits said l) (after said l) a.0 a.1 in
    let c = taken_fit lines (after said l) all (ap (λ (s : Said). takes s lines) b.1 ∙ a.2) in
    (c.0, fit_more said lines l b.0 c.1)

fit_taken : (lines : List SetupLine) (said : Said) → Fit said lines → takes said lines ≡ Some (fold after said lines)
fit_taken [] said fit = refl
fit_taken (l ∷ lines) said fit =
    let here : fits said l ≡ true = fit [] lines l refl in
    let rest : Fit (after said l) lines = λ before behind m q. fit (l ∷ before) behind m (ap (λ (ls : List SetupLine). l ∷ ls) q) in
    rw here (fit_taken lines (after said l) rest)

all_of : (a b c : Bool) → (a && (b && c)) ≡ true → (a ≡ true) × (b ≡ true) × (c ≡ true)
all_of true true c e = (refl, refl, e)
all_of true false c e = absurd cc
all_of false b c e = absurd cc

pub in_order : (lines : List SetupLine) (all : Said) → takes none_said lines ≡ Some all → (all ≡ said_by lines) × AreInOrder lines
in_order lines all e =
    let a = taken_fit lines none_said all e in
    let each : (before behind : List SetupLine) (l : SetupLine) → lines ≡ before ++ l ∷ behind
    → (is_free (said_by before).taken (slot l) ≡ true) × (is_met (said_by before).known (needs l) ≡ true) × (has_room (said_by before).known (gives l) ≡ true) =
    λ before behind l q. all_of (is_free (said_by before).taken (slot l)) (is_met (said_by before).known (needs l)) (has_room (said_by before).known (gives l)) (a.1 before behind l q) in (
      a.0,
      record {
        apart = λ before behind l q. (each before behind l q).0;
        placed = λ before behind l q. (each before behind l q).1;
        few = λ before behind l q. (each before behind l q).2;
      },
    )

pub taken_again : (lines : List SetupLine) → AreInOrder lines → takes none_said lines ≡ Some (said_by lines)
taken_again lines is = fit_taken lines none_said (λ before behind l q. rw (is.apart before behind l q, is.placed before behind l q, is.few before behind l q) refl)
