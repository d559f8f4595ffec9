use Rattle.std.proofs.Common.{◌≡◌, ◌<◌, ◌^◌, ℕ, [], ◌∷◌, ◌++◌, List, sym, subst, ◌∙◌, arith}
use Rattle.std.specs.Prelude.{Result, Ok, Err, OnOk}
use Rattle.std.specs.declared.alloc.AllocError.{AllocError}
use Rattle.rtp_base.specs.declared.window.SeqNoWindow.{SeqNoWindow}
use Rattle.rtp_base.specs.Window.{greatest}
use Rattle.stream_core.specs.Seen.{SeenStandsFor, saw}
use Rattle.stream_core.proofs.SeenSteps.{saw_there, saw_new, window_more}
use Rattle.stream_core.proofs.seen.Seen.put.Goals as goal

pub returns-in-Some-clause-ok : goal.returns-in-Some-clause-ok
returns-in-Some-clause-ok c = λ seen h.
    let mine = subst (λ (s : List (ℕ × SeqNoWindow)). SeenStandsFor s seen) (sym c.self.view_is) h in
    saw_there c.self.inside.windows seen c.args.ssrc mine c.in-Some.place c.args.number c.at_mut.result.now c.update.new.self
    (sym c.place.ensures.place ∙ c.in-Some.is) c.at_mut.ensures.value (window_more c.at_mut.result.now c.update.new.self c.args.number c.requires c.update.ensures.taken)

added : (o : Result (Unit {0}) AllocError) (ws new : List (ℕ × SeqNoWindow)) (ssrc n : ℕ) (w : SeqNoWindow) → OnOk o (new ≡ ws ++ (ssrc, w) ∷ [])
    → ((seen : List (ℕ × List ℕ)) → SeenStandsFor ws seen → SeenStandsFor (ws ++ (ssrc, w) ∷ []) (saw ssrc n seen))
    → OnOk o ((seen : List (ℕ × List ℕ)) → SeenStandsFor ws seen → SeenStandsFor new (saw ssrc n seen))
added (Ok u) ws new ssrc n w ok step = λ seen h. subst (λ l. SeenStandsFor l (saw ssrc n seen)) (sym ok) (step seen h)
added (Err e) ws new ssrc n w ok step = tt

pub returns-in-None-clause-ok : goal.returns-in-None-clause-ok
returns-in-None-clause-ok c =
    let ws = c.self.inside.windows in
    let n = c.args.number in
    let small : greatest (n ∷ []) < 2 ^ 48 = let h : n < 2 ^ 48 = c.requires in omega arith in
    subst (λ (s : List (ℕ × SeqNoWindow)). OnOk c.add.result ((seen : List (ℕ × List ℕ)) → SeenStandsFor s seen → SeenStandsFor c.add.new.self (saw c.args.ssrc n seen))) c.self.view_is
    (added c.add.result ws c.add.new.self c.args.ssrc n c.new.result c.add.ensures.ok
    (λ seen h. saw_new ws seen c.args.ssrc h n c.new.result (sym c.place.ensures.place ∙ c.in-None.is) (c.new.ensures, small)))
