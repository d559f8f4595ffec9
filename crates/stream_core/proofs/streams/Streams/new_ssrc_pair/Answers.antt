use Rattle.std.proofs.Common.{ℕ, Bool, sym, ap, subst, ◌∙◌}
use Rattle.std.proofs.lemmas.Result.{IfOk-weaker, on_err_weaker}
use Rattle.mapping_core.specs.Draws.{drawn_pair, AreFree}
use Rattle.stream_core.proofs.InUseSteps.{used_is}
use Rattle.stream_core.proofs.streams.Streams.new_ssrc_pair.Goals as goal

pub returns-clause-drawn : goal.returns-clause-drawn
returns-clause-drawn g c =
    IfOk-weaker c.new_ssrc_pair.result _ _
    (λ p drawn r h. ap (λ (f : ℕ → Bool). drawn_pair f (g.R.Rng.stream c.args.rng.now)) (sym (used_is g.W.GapWindow.remembers g.S.ResendStore.stands_for c.args.self.now r h)) ∙ drawn)
    c.new_ssrc_pair.ensures.drawn

pub returns-clause-free : goal.returns-clause-free
returns-clause-free g c =
    IfOk-weaker c.new_ssrc_pair.result _ _
    (λ p free r h. subst (λ (f : ℕ → Bool). AreFree f p.0 p.1) (used_is g.W.GapWindow.remembers g.S.ResendStore.stands_for c.args.self.now r h) free)
    c.new_ssrc_pair.ensures.free

pub returns-clause-none : goal.returns-clause-none
returns-clause-none g c =
    on_err_weaker c.new_ssrc_pair.result
    (λ none r h. ap (λ (f : ℕ → Bool). drawn_pair f (g.R.Rng.stream c.args.rng.now)) (sym (used_is g.W.GapWindow.remembers g.S.ResendStore.stands_for c.args.self.now r h)) ∙ none)
    c.new_ssrc_pair.ensures.none
