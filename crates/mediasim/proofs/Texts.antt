-- The lines of entries, as they are gathered and written.
use Rattle.std.proofs.Common.{◌≡◌, inl, inr, ℕ, ◌+◌, ◌<◌, ◌≤◌, min, List, [], ◌∷◌, ◌++◌, length, get_or, take, drop, sym, ap, ◌∙◌, subst, take-append-drop, arith}
use Rattle.std.specs.Prelude.{codes, ◌⊎◌}
use Rattle.std.specs.declared.option.Option.{Option}
use Rattle.std.specs.Io.KnownBytes.{Appends}
use Rattle.std.proofs.KnownBytes.{Appends-trans}
use Rattle.std.proofs.Math.Seq.{take-append-add}
use Rattle.std.proofs.lemmas.List.{append-nil, append_assoc, take_all, take_min, take_more, take-append-le}
use Rattle.std.proofs.lemmas.List.Concat.{flat_map-append}
use Rattle.media_base.specs.Causes.{WritesFront}
use Rattle.media_model.specs.declared.entry.Entry.{Entry}
use Rattle.media_script.specs.Text.{line_text, entries_text}

-- a front of the first of two pieces, and of the second behind the first
pub front_of_first : (a b : Option (List ℕ)) (xs ys : List ℕ) → WritesFront a b xs → WritesFront a b (xs ++ ys)
front_of_first a b xs ys w =
    let n = min w.count (length xs) in
    let le : n ≤ length xs = omega arith in
    record { count = n; written = subst (Appends a b) (sym (take-append-le n xs ys le ∙ take_min w.count xs)) w.written }

pub front_of_second : (a b c : Option (List ℕ)) (xs ys : List ℕ) → Appends a b xs → WritesFront b c ys → WritesFront a c (xs ++ ys)
front_of_second a b c xs ys all w =
    record { count = length xs + w.count; written = subst (Appends a c) (sym (take-append-add xs ys w.count)) (Appends-trans a b c _ _ all w.written) }

text_parts : (i : ℕ) (es : List Entry) → entries_text es ≡ entries_text (take i es) ++ entries_text (drop i es)
text_parts i es =
    let f : Entry → List ℕ = λ e. line_text e ++ codes "\n" in
    ap entries_text (sym (take-append-drop i es)) ∙ flat_map-append f (take i es) (drop i es)

-- the text of one entry more
text_more : (es : List Entry) (i : ℕ) (e : Entry) → i < length es → e ≡ get_or es i e
    → entries_text (take (i + 1) es) ≡ entries_text (take i es) ++ (line_text e ++ codes "\n")
text_more es i e lt is =
    let f : Entry → List ℕ = λ e. line_text e ++ codes "\n" in
    ap entries_text (take_more es i e lt) ∙ flat_map-append f (take i es) (get_or es i e ∷ [])
    ∙ ap (λ (xs : List ℕ). entries_text (take i es) ++ xs) (append-nil (f (get_or es i e)) ∙ ap f (sym is))

-- the lines of the first entries were written, and those of the next ones up to the i-th are gathered
module _ (es : List Entry) (count i : ℕ) (gathered : List ℕ) (is : entries_text (take count es) ++ gathered ≡ entries_text (take i es)) where
  pub gathered_more : (e : Entry) (new : List ℕ) → i < length es → e ≡ get_or es i e → new ≡ gathered ++ (line_text e ++ codes "\n")
      → entries_text (take count es) ++ new ≡ entries_text (take (i + 1) es)
  gathered_more e new lt at same =
      let t = entries_text (take count es) in
      let l = line_text e ++ codes "\n" in
      ap (λ (xs : List ℕ). t ++ xs) same ∙ sym (append_assoc t gathered l) ∙ ap (λ (xs : List ℕ). xs ++ l) is ∙ sym (text_more es i e lt at)

  pub more_written : (a b c : Option (List ℕ)) (out new : List ℕ) → Appends a b (entries_text (take count es)) → Appends b c out
      → out ++ new ≡ gathered → (out ≡ []) ⊎ (new ≡ [])
      → (next : ℕ) × Appends a c (entries_text (take next es)) × (entries_text (take next es) ++ new ≡ entries_text (take i es))
  more_written a b c out new all wrote parts (inl none) =
      let t = entries_text (take count es) in
      let w : Appends a c (t ++ out) = Appends-trans a b c t out all wrote in (
        count,
        subst (Appends a c) (ap (λ (xs : List ℕ). t ++ xs) none ∙ append-nil t) w,
        ap (λ (xs : List ℕ). t ++ xs) (sym (ap (λ (xs : List ℕ). xs ++ new) none) ∙ parts) ∙ is,
      )
  more_written a b c out new all wrote parts (inr none) =
      let t = entries_text (take count es) in
      let w : Appends a c (t ++ out) = Appends-trans a b c t out all wrote in
      let same : out ≡ gathered = sym (append-nil out) ∙ ap (λ (xs : List ℕ). out ++ xs) (sym none) ∙ parts in (
        i,
        subst (Appends a c) (ap (λ (xs : List ℕ). t ++ xs) same ∙ is) w,
        ap (λ (xs : List ℕ). entries_text (take i es) ++ xs) none ∙ append-nil (entries_text (take i es)),
      )

  pub front_gathered : (a b c : Option (List ℕ)) (last : List ℕ) → Appends a b (entries_text (take count es)) → WritesFront b c gathered
      → WritesFront a c (entries_text es ++ last)
  front_gathered a b c last all w =
      let t = entries_text (take i es) in
      let rest = entries_text (drop i es) in
      let here : WritesFront a c t = subst (WritesFront a c) is (front_of_second a b c (entries_text (take count es)) gathered all w) in
      subst (WritesFront a c) (sym (append_assoc t rest last) ∙ ap (λ (xs : List ℕ). xs ++ last) (sym (text_parts i es)))
      (front_of_first a c t (rest ++ last) here)

  pub all_gathered : (a b c : Option (List ℕ)) → length es ≤ i → Appends a b (entries_text (take count es)) → Appends b c gathered
      → Appends a c (entries_text es)
  all_gathered a b c long all wrote =
      subst (Appends a c) (is ∙ ap entries_text (take_all i es long)) (Appends-trans a b c (entries_text (take count es)) gathered all wrote)
