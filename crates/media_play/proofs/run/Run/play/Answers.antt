use Rattle.std.proofs.Common.{◌≡◌, ℕ, false, List, [], ◌++◌, length, take, Option, Some, None, is_some, refl, sym, ap, ◌∙◌, subst}
use Rattle.std.proofs.lemmas.List.{append-nil}
use Rattle.std.proofs.Math.Seq.{take-append_seam, take-length}
use Rattle.media_model.specs.declared.entry.Entry.{Entry}
use Rattle.media_laws.specs.Listing.{OnlyAdds}
use Rattle.media_play.specs.declared.fault.StepError.{StepError}
use Rattle.media_play.specs.Running.{RunState, RunView, run_view, told_of, Plays, Refuses}
use Rattle.media_play.proofs.run.Run.play.Goals as goal

-- entries that were only added to, cut to as many as they were, are what they were
cut_back : (past old new : List Entry) (n : ℕ) → old ≡ past → OnlyAdds old new → n ≡ length past → take n new ≡ past
cut_back past old new n is adds count =
    (λ i. take (count i) new) ∙ ap (take (length past)) (adds.1 ∙ ap (λ (l : List Entry). l ++ adds.0) is) ∙ take-append_seam past adds.0

none_told : (told : Option ℕ) → is_some told ≡ false → told ≡ None
none_told None goes = refl
none_told (Some told) goes = absurd cc

-- a run that is not stopped tells all
all_told : {state : RunState} {told : Option ℕ} {run : RunView} → run_view state told ≡ run → told ≡ None → state ≡ run.state
all_told {state} seen none = ap (λ (v : RunView). v.state) (ap (run_view state) (sym none) ∙ seen)

pub returns-in-Ok-clause-played : goal.returns-in-Ok-clause-played
returns-in-Ok-clause-played g c =
    let K = g.C.SrtpCipher.meaning in
    let step = c.args.step.now in
    let new = c.play.new.self in
    let none = none_told c.self.inside.told (sym c.is_some.ensures ∙ c.if-is_some.false) in
    let before = c.deref_mut.ensures.value ∙ all_told c.self.view_is none in
    subst (λ (told : Option ℕ). Plays K c.args.self.now.state step (record new { log = told_of told new.log })) (sym none)
    (subst (λ (old : RunState). Plays K old step new) before c.in-Ok.ensures.played)

pub returns-in-Err-Rule-clause-refused : goal.returns-in-Err-Rule-clause-refused
returns-in-Err-Rule-clause-refused g c = λ goes setup steps is_run.
    let K = g.C.SrtpCipher.meaning in
    let step = c.args.step.now in
    let log = c.play.new.self.log in
    let none = none_told c.self.inside.told (sym c.is_some.ensures ∙ c.if-is_some.false) in
    let before = c.deref_mut.ensures.value ∙ all_told c.self.view_is none in
    let refuses : Refuses K c.args.self.now.state step c.in-Err-Rule.field-0 log = subst (λ (old : RunState). Refuses K old step c.in-Err-Rule.field-0 log) before c.in-Err-Rule.ensures.refused in
    let h = subst (λ (e : StepError). Refuses K c.args.self.now.state step e log) c.in-Err-Rule.field-0-is refuses setup steps is_run in
    (h.0, ap (λ (told : Option ℕ). told_of told log) none ∙ h.1, h.2)

pub returns-in-Err-Memory-clause-refused : goal.returns-in-Err-Memory-clause-refused
returns-in-Err-Memory-clause-refused g c = λ goes setup steps is_run.
    let past = c.args.self.now.state.log in
    let none = none_told c.self.inside.told (sym c.is_some.ensures ∙ c.if-is_some.false) in
    let same = all_told c.self.view_is none in
    let before = ap (λ (r : RunState). r.log) (c.deref_mut.ensures.value ∙ same) in
    let count = c.len-len.ensures ∙ ap (λ (r : RunState). length r.log) (c.deref.ensures ∙ same) in
    ([], cut_back past _ c.play.new.self.log c.len-len.result before c.play.ensures.longer count ∙ sym (append-nil past), tt)

pub returns-in-Err-Memory-clause-memory : goal.returns-in-Err-Memory-clause-memory
returns-in-Err-Memory-clause-memory g c = λ e.
    let past = c.args.self.now.state.log in
    let none = none_told c.self.inside.told (sym c.is_some.ensures ∙ c.if-is_some.false) in
    let same = all_told c.self.view_is none in
    let before = ap (λ (r : RunState). r.log) (c.deref_mut.ensures.value ∙ same) in
    let count = c.len-len.ensures ∙ ap (λ (r : RunState). length r.log) (c.deref.ensures ∙ same) in
    cut_back past _ c.play.new.self.log c.len-len.result before c.play.ensures.longer count

pub returns-in-Err-clause-refused : goal.returns-in-Err-clause-refused
returns-in-Err-clause-refused g c = λ goes.
    let K = g.C.SrtpCipher.meaning in
    let step = c.args.step.now in
    let cause = c.in-Err.cause in
    let log = c.play.new.self.log in
    let none = none_told c.self.inside.told (sym c.is_some.ensures ∙ c.if-is_some.false) in
    let before = c.deref_mut.ensures.value ∙ all_told c.self.view_is none in
    let all = ap (λ (n : ℕ). take n log) (c.len.ensures ∙ ap (λ (r : RunState). length r.log) c.deref-in-Err.ensures) ∙ take-length log in
    subst (λ (entries : List Entry). Refuses K c.args.self.now.state step cause entries) (sym all)
    (subst (λ (old : RunState). Refuses K old step cause log) before c.in-Err.ensures.refused)
