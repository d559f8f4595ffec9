-- All incoming streams change, or one after the other.
use Rattle.std.proofs.Common.{◌≡◌, ℕ, zero, suc, ◌+◌, ◌<◌, ◌≤◌, Bool, true, false, List, [], ◌∷◌, ◌++◌, Option, Some, None, length, take, drop, slice_get, refl, sym, ap, subst, ◌∙◌, add-one, arith}
use Rattle.std.proofs.lemmas.List.{take_all, append-nil}
use Rattle.std.specs.List.{AllByRecursion}
use Rattle.std.specs.Prelude.{if◌then◌else◌, option_and_then, IfSome, IfNone}
use Rattle.rtcp_wire.specs.declared.packet.Rtcp.{Rtcp}
use Rattle.report_core.specs.declared.clock.ReportIntervals.{ReportIntervals}
use Rattle.stream_core.specs.declared.reports.Tick.{Tick}
use Rattle.stream_core.specs.Reporting.{is_among, report_at, is_report_due, due_mids, report_before, items_with}
use Rattle.std.specs.Map.{values_of}
use Rattle.std.specs.Option.{option_map, option_map_or}
use Rattle.indexmap.specs.IndexMap.{set_value_at}
use Rattle.repair_core.specs.Rounds.{Heard}
use Rattle.stream_core.specs.Pauses.{on_view, on_record, told_of, told, first_where, view_untold, is_untold, next_pause, after_pause, untold_in, pause_before}
use Rattle.media_units.specs.Soonest.{earlier}
use Rattle.stream_core.specs.RxRecord.{RxState, RxView, RxRecord, StandsFor}
use Rattle.stream_core.specs.Tables.{each, change_place, Along}
use Rattle.stream_core.proofs.Alongside.{change_along, value_along}

pub pause_more : (first : Option ℕ) (rs : List (ℕ × RxRecord)) (i : ℕ) (r : RxRecord) → slice_get (values_of rs) i ≡ Some r
    → pause_before (earlier first r.state.pause_at) (drop (i + 1) rs) ≡ pause_before first (drop i rs)
pause_more first rs i r at = ap (λ n. pause_before (earlier first r.state.pause_at) (drop n rs)) (add-one i) ∙ by rs i at
  where
    by : (rs : List (ℕ × RxRecord)) (i : ℕ) → slice_get (values_of rs) i ≡ Some r → pause_before (earlier first r.state.pause_at) (drop (suc i) rs) ≡ pause_before first (drop i rs)
    by [] i at = absurd cc
    by (e ∷ es) zero at = let same : r ≡ e.1 = cc in ap (λ (x : RxRecord). pause_before (earlier first x.state.pause_at) es) same
    by (e ∷ es) (suc i) at = by es i at

module _ {W : Type 0} (remembers : W → Heard → Type 0) where
  -- all but the window changes
  pub state_step : (f : RxState → RxState) (x : RxView W) (r : RxRecord) → StandsFor remembers x r → StandsFor remembers (on_view f x) (on_record f r)
  state_step f x r h = record { state = ap f h.state; window = h.window; repairs = h.repairs; recent = h.recent }

  -- on each stream
  pub states_along : (f : RxState → RxState) (xs : List (ℕ × RxView W)) (rs : List (ℕ × RxRecord)) → Along (StandsFor remembers) xs rs
      → Along (StandsFor remembers) (each (on_view f) xs) (each (on_record f) rs)
  states_along f [] [] h = h
  states_along f [] (r ∷ rs) h = absurd h
  states_along f (x ∷ xs) [] h = absurd h
  states_along f (x ∷ xs) (r ∷ rs) h = ((h.0.0, state_step f x.1 r.1 h.0.1), states_along f xs rs h.1)

  -- the first stream of which something is to be told is the same
  pub first_along : (xs : List (ℕ × RxView W)) (rs : List (ℕ × RxRecord)) → Along (StandsFor remembers) xs rs → first_where view_untold xs ≡ first_where is_untold rs
  first_along [] [] h = refl
  first_along [] (r ∷ rs) h = absurd h
  first_along (x ∷ xs) [] h = absurd h
  first_along (x ∷ xs) (r ∷ rs) h =
      let rest = first_along xs rs h.1 in
      λ j. if (h.0.1.state j).untold then Some zero else option_map suc (rest j)

  -- of none anything is to be told
  pub nothing_told : (xs : List (ℕ × RxView W)) (rs : List (ℕ × RxRecord)) → Along (StandsFor remembers) xs rs → first_where view_untold xs ≡ None
      → (next_pause rs ≡ None) × (after_pause rs ≡ rs)
  nothing_told xs rs h none =
      let k = sym (first_along xs rs h) ∙ none in (
        ap (λ o. option_and_then (λ r. told_of r.state) (option_and_then (slice_get (values_of rs)) o)) k,
        ap (λ o. option_map_or (change_place (on_record told) rs) o rs) k,
      )

  -- the first is told of
  module _ (xs : List (ℕ × RxView W)) (rs : List (ℕ × RxRecord)) (h : Along (StandsFor remembers) xs rs) (i : ℕ) (x : RxView W)
      (first : first_where view_untold xs ≡ Some i) (at : slice_get (values_of xs) i ≡ Some x) where
    pub told_next : told_of x.state ≡ next_pause rs
    told_next =
        let y = value_along (StandsFor remembers) xs rs i x h at in
        ap told_of y.2.state
        ∙ sym (ap (λ o. option_and_then (λ r. told_of r.state) (option_and_then (slice_get (values_of rs)) o)) (sym (first_along xs rs h) ∙ first)
        ∙ ap (λ o. option_and_then (λ r. told_of r.state) o) y.1)

    pub after_next : (new : RxView W) → new ≡ record x { state = told x.state } → Along (StandsFor remembers) (set_value_at xs i new) (after_pause rs)
    after_next new is =
        subst (Along (StandsFor remembers) (set_value_at xs i new))
        (sym (ap (λ o. option_map_or (change_place (on_record told) rs) o rs) (sym (first_along xs rs h) ∙ first)))
        (change_along (StandsFor remembers) xs rs i x new (on_record told) h at
        (λ y k. subst (λ v. StandsFor remembers v (on_record told y)) (sym is) (state_step told x y k)))

-- the value at the first place has it
pub first_has : {X : Type 0} (p : X → Bool) (es : List (ℕ × X)) (i : ℕ) (x : X) → first_where p es ≡ Some i → slice_get (values_of es) i ≡ Some x → p x ≡ true
first_has p [] i x first at = absurd cc
first_has p (e ∷ es) i x first at = by (p e.1) refl (first_where p es) (λ j. first_has p es j x) first
  where
    by : (b : Bool) → p e.1 ≡ b → (o : Option ℕ) → ((j : ℕ) → o ≡ Some j → slice_get (values_of es) j ≡ Some x → p x ≡ true) → (if b then Some zero else option_map suc o) ≡ Some i → p x ≡ true
    by true is o rest h = let here : i ≡ zero = cc in let same : Some e.1 ≡ Some x = subst (λ n. slice_get (values_of (e ∷ es)) n ≡ Some x) here at in let e1 : x ≡ e.1 = cc in ap p e1 ∙ is
    by false is None rest h = absurd cc
    by false is (Some j) rest h = let there : i ≡ suc j = cc in rest j refl (subst (λ n. slice_get (values_of (e ∷ es)) n ≡ Some x) there at)

-- what holds anyhow holds of what an option has
pub in_any : {X : Type 0} {P : Type 0} (o : Option X) → P → IfSome o (λ x. P)
in_any None h = tt
in_any (Some x) h = h

-- nothing has to hold of the other case
pub no_none : {X : Type 0} (P : Type 0) (o : Option X) (x : X) → o ≡ Some x → IfNone o P
no_none P None x h = absurd cc
no_none P (Some y) x h = tt

-- of one stream less something is to be told
pub fewer_untold : {W : Type 0} (xs : List (ℕ × RxView W)) (i : ℕ) (x new : RxView W) → slice_get (values_of xs) i ≡ Some x → x.state.untold ≡ true → new.state.untold ≡ false
    → untold_in (set_value_at xs i new) < untold_in xs
fewer_untold [] i x new at is not = absurd cc
fewer_untold {W = W} (e ∷ es) zero x new at is not =
    let same : e.1 ≡ x = cc in
    let less : (if new.state.untold then suc (untold_in es) else untold_in es) ≡ untold_in es = ap (λ b. if b then suc (untold_in es) else untold_in es) not in
    let more : (if e.1.state.untold then suc (untold_in es) else untold_in es) ≡ suc (untold_in es) = ap (λ b. if b then suc (untold_in es) else untold_in es) (ap (λ (v : RxView W). v.state.untold) same ∙ is) in
    omega arith
fewer_untold {W = W} (e ∷ es) (suc i) x new at is not = both e.1.state.untold (fewer_untold {W = W} es i x new at is not)
  where
    both : (b : Bool) → untold_in (set_value_at es i new) < untold_in es
        → (if b then suc (untold_in (set_value_at es i new)) else untold_in (set_value_at es i new)) < (if b then suc (untold_in es) else untold_in es)
    both true h = omega arith
    both false h = h

-- a value that was written over is the new one
pub value_set : {X : Type 0} (es : List (ℕ × X)) (i : ℕ) (old new x : X) → slice_get (values_of es) i ≡ Some old → slice_get (values_of (set_value_at es i new)) i ≡ Some x → x ≡ new
value_set [] i old new x at is = absurd cc
value_set (e ∷ es) zero old new x at is = cc
value_set (e ∷ es) (suc i) old new x at is = value_set es i old new x at is

-- the first moment of all reports, where that of one stream more is taken in
pub report_more : (intervals : ReportIntervals) (first : Option ℕ) (rs : List (ℕ × RxRecord)) (i : ℕ) (r : RxRecord) → slice_get (values_of rs) i ≡ Some r
    → report_before intervals (earlier first (Some (report_at intervals r.state))) (drop (i + 1) rs) ≡ report_before intervals first (drop i rs)
report_more intervals first rs i r at = ap (λ n. report_before intervals (earlier first (Some (report_at intervals r.state))) (drop n rs)) (add-one i) ∙ by rs i at
  where
    by : (rs : List (ℕ × RxRecord)) (i : ℕ) → slice_get (values_of rs) i ≡ Some r
        → report_before intervals (earlier first (Some (report_at intervals r.state))) (drop (suc i) rs) ≡ report_before intervals first (drop i rs)
    by [] i at = absurd cc
    by (e ∷ es) zero at = let same : r ≡ e.1 = cc in ap (λ (x : RxRecord). report_before intervals (earlier first (Some (report_at intervals x.state))) es) same
    by (e ∷ es) (suc i) at = by es i at

-- the media section of a stream, where its report is due
abbrev mid_if : Bool → List ℕ → List (List ℕ)
mid_if true mid = mid ∷ []
mid_if false mid = []

module _ (intervals : ReportIntervals) (now : ℕ) where
  mids_suc : (rs : List (ℕ × RxRecord)) (i : ℕ) (r : RxRecord) (b : Bool) → slice_get (values_of rs) i ≡ Some r → is_report_due intervals now r.state ≡ b
      → due_mids intervals now (take (suc i) rs) ≡ due_mids intervals now (take i rs) ++ mid_if b r.state.mid
  mids_suc [] i r b at due = absurd cc
  mids_suc (e ∷ es) zero r b at due =
      let same : r ≡ e.1 = cc in
      by b (sym (ap (λ (x : RxRecord). is_report_due intervals now x.state) same) ∙ due) ∙ ap (λ (x : RxRecord). mid_if b x.state.mid) (sym same)
    where
      by : (b : Bool) → is_report_due intervals now e.1.state ≡ b → (if is_report_due intervals now e.1.state then e.1.state.mid ∷ [] else []) ≡ mid_if b e.1.state.mid
      by true h = ap (λ c. if c then e.1.state.mid ∷ [] else []) h
      by false h = ap (λ c. if c then e.1.state.mid ∷ [] else []) h
  mids_suc (e ∷ es) (suc i) r b at due = by (is_report_due intervals now e.1.state) (mids_suc es i r b at due)
    where
      by : (c : Bool) → due_mids intervals now (take (suc i) es) ≡ due_mids intervals now (take i es) ++ mid_if b r.state.mid
          → (if c then e.1.state.mid ∷ due_mids intervals now (take (suc i) es) else due_mids intervals now (take (suc i) es))
          ≡ (if c then e.1.state.mid ∷ due_mids intervals now (take i es) else due_mids intervals now (take i es)) ++ mid_if b r.state.mid
      by true rest = ap (λ l. e.1.state.mid ∷ l) rest
      by false rest = rest

  -- the report of one stream more is due
  pub mids_more : (rs : List (ℕ × RxRecord)) (i : ℕ) (r : RxRecord) → slice_get (values_of rs) i ≡ Some r → is_report_due intervals now r.state ≡ true
      → due_mids intervals now (take (i + 1) rs) ≡ due_mids intervals now (take i rs) ++ r.state.mid ∷ []
  mids_more rs i r at due = ap (λ n. due_mids intervals now (take n rs)) (add-one i) ∙ mids_suc rs i r true at due

  -- or it is not
  pub mids_same : (rs : List (ℕ × RxRecord)) (i : ℕ) (r : RxRecord) → slice_get (values_of rs) i ≡ Some r → is_report_due intervals now r.state ≡ false
      → due_mids intervals now (take (i + 1) rs) ≡ due_mids intervals now (take i rs)
  mids_same rs i r at due = ap (λ n. due_mids intervals now (take n rs)) (add-one i) ∙ mids_suc rs i r false at due ∙ append-nil (due_mids intervals now (take i rs))

  -- at the end all were looked at
  pub mids_all : (rs : List (ℕ × RxRecord)) (i : ℕ) → length rs ≤ i → due_mids intervals now (take i rs) ≡ due_mids intervals now rs
  mids_all rs i long = ap (due_mids intervals now) (take_all i rs long)

  -- where the report of some stream is due, some media section is named
  pub mids_some : (rs : List (ℕ × RxRecord)) (i : ℕ) (r : RxRecord) → slice_get (values_of rs) i ≡ Some r → is_report_due intervals now r.state ≡ true → due_mids intervals now rs ≡ [] → ⊥
  mids_some [] i r at due none = absurd cc
  mids_some (e ∷ es) zero r at due none =
      let same : r ≡ e.1 = cc in
      let here : is_report_due intervals now e.1.state ≡ true = sym (ap (λ (x : RxRecord). is_report_due intervals now x.state) same) ∙ due in
      let some : due_mids intervals now (e ∷ es) ≡ e.1.state.mid ∷ due_mids intervals now es =
      ap (λ c. if c then e.1.state.mid ∷ due_mids intervals now es else due_mids intervals now es) here in
      cc
  mids_some (e ∷ es) (suc i) r at due none = by (is_report_due intervals now e.1.state) none (mids_some es i r at due)
    where
      by : (c : Bool) → (if c then e.1.state.mid ∷ due_mids intervals now es else due_mids intervals now es) ≡ [] → (due_mids intervals now es ≡ [] → ⊥) → ⊥
      by true h rest = absurd cc
      by false h rest = rest h

-- among no media sections there is none
pub among_some : (mid : List ℕ) (mids : List (List ℕ)) → is_among mid mids ≡ true → mids ≡ [] → ⊥
among_some mid mids is none = let not : is_among mid mids ≡ false = ap (is_among mid) none in absurd cc

-- at the end all have said it
pub said_all : (tick : Tick) (mids : List (List ℕ)) (rs : List (ℕ × RxRecord)) (i : ℕ) → length rs ≤ i → items_with tick mids (take i rs) ≡ items_with tick mids rs
said_all tick mids rs i long = ap (items_with tick mids) (take_all i rs long)

-- what holds of each of two lists holds of both together
pub all_more : (P : Rtcp → Type 0) (xs ys : List Rtcp) → AllByRecursion P xs → AllByRecursion P ys → AllByRecursion P (xs ++ ys)
all_more P [] ys h k = k
all_more P (x ∷ xs) ys h k = (h.0, all_more P xs ys h.1 k)
