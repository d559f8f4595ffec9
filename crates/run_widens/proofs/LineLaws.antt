-- The entries of a run, one after another.
use Rattle.std.proofs.Common.{◌≡◌, ◌<◌, ◌+◌, ℕ, map, List, [], ◌∷◌, ◌++◌, length, take, drop, get_or, Some, None, sym, ap, ◌∙◌, subst, append_assoc, add-one}
use Rattle.std.proofs.Math.Seq.{drop-cons}
use Rattle.std.proofs.lemmas.List.{append-nil, take_more, take-append-drop, map-append}
use Rattle.media_model.specs.declared.entry.Entry.{Entry}
use Rattle.run_model.specs.Runs.{Happening, EachFrom}
use Rattle.run_widens.specs.declared.line.Line.{Line}
use Rattle.run_widens.specs.declared.sent.Sent.{Sent}
use Rattle.run_widens.specs.declared.taken.Taken.{Taken}
use Rattle.run_widens.specs.Lines.{happening_in}
use Rattle.run_widens.specs.Sent.{Holds}
use Rattle.run_widens.specs.Widens.{taken_on, Widens, Told, LineWidens}

module _ (P : List Happening → Happening → Type 0) where
  each_more : (past xs : List Happening) (x : Happening) → EachFrom P past xs → P (past ++ xs) x → EachFrom P past (xs ++ x ∷ [])
  each_more past [] x h p = (subst (λ es. P es x) (append-nil past) p, tt)
  each_more past (y ∷ ys) x h p = (h.0, each_more (past ++ y ∷ []) ys x h.1 (subst (λ es. P es x) (sym (append_assoc past (y ∷ []) ys)) p))

  each_at : (past xs ys : List Happening) (x : Happening) → EachFrom P past (xs ++ x ∷ ys) → P (past ++ xs) x
  each_at past [] ys x h = subst (λ es. P es x) (sym (append-nil past)) h.0
  each_at past (z ∷ zs) ys x h = subst (λ es. P es x) (append_assoc past (z ∷ []) zs) (each_at (past ++ z ∷ []) zs ys x h.1)

abbrev pub happened : Line → List Entry → ℕ → List Happening
happened line entries i = map (happening_in line) (take i entries)

-- what is kept of the entries before index i
pub record Knows (line : Line) (entries : List Entry) (i : ℕ) (taken : Taken) (sent : Sent) : Type 0 where
  pub taken_so_far : taken ≡ taken_on line (happened line entries i)
  pub sent_so_far : Holds line sent i (happened line entries i)
  pub each : LineWidens line (take i entries)

module _ (line : Line) (entries : List Entry) (i : ℕ) (lt : i < length entries) (e : Entry) (is : e ≡ get_or entries i e) where
  front : take (i + 1) entries ≡ take i entries ++ e ∷ []
  front = take_more entries i e lt ∙ ap (λ (x : Entry). take i entries ++ x ∷ []) (sym is)

  pub more : happened line entries (i + 1) ≡ happened line entries i ++ happening_in line e ∷ []
  more = ap (map (happening_in line)) front ∙ map-append (happening_in line) (take i entries) (e ∷ [])

  pub goes_on : (t u : Taken) (old new : Sent) → Knows line entries i t old → Told line (happened line entries i) (happening_in line e) (Some u)
      → Holds line new (i + 1) (happened line entries i ++ happening_in line e ∷ []) → Knows line entries (i + 1) u new
  goes_on t u old new knows told holds = record {
    taken_so_far = told.1 ∙ ap (taken_on line) (sym more);
    sent_so_far = subst (Holds line new (i + 1)) (sym more) holds;
    each = subst (EachFrom (Widens line) []) (sym more) (each_more (Widens line) [] (happened line entries i) (happening_in line e) knows.each told.0);
  }

  whole : entries ≡ take i entries ++ e ∷ drop (i + 1) entries
  whole = sym (take-append-drop i entries) ∙ ap (λ es. take i entries ++ es) (drop-cons entries i e lt ∙ (λ j. sym is j ∷ drop (sym (add-one i) j) entries))

  pub stops : Told line (happened line entries i) (happening_in line e) None → LineWidens line entries → ⊥
  stops told widens =
      told (each_at (Widens line) [] (happened line entries i) (map (happening_in line) (drop (i + 1) entries)) (happening_in line e)
      (subst (EachFrom (Widens line) []) (ap (map (happening_in line)) whole ∙ map-append (happening_in line) (take i entries) (e ∷ drop (i + 1) entries)) widens))
