use Rattle.std.proofs.Common.{ℕ, List, sym, ap, subst, ◌∙◌}
use Rattle.std.specs.Option.{option_map}
use Rattle.rtp_base.specs.declared.window.SeqNoWindow.{SeqNoWindow}
use Rattle.rtp_base.specs.Window.{greatest}
use Rattle.stream_core.specs.Seen.{SeenStandsFor}
use Rattle.stream_core.proofs.SeenSteps.{seen_none, seen_at}
use Rattle.stream_core.proofs.seen.Seen.get.Goals as goal

pub returns-in-Some-clause-value : goal.returns-in-Some-clause-value
returns-in-Some-clause-value c = λ seen h.
    let mine = subst (λ (s : List (ℕ × SeqNoWindow)). SeenStandsFor s seen) (sym c.self.view_is) h in
    let k = seen_at c.self.inside.windows seen c.args.ssrc mine c.in-Some.place c.at.result.now (sym c.place.ensures.place ∙ c.in-Some.is) c.at.ensures in
    c.greatest_of.ensures.value k.0 k.2 ∙ sym (ap (option_map greatest) k.1)

pub returns-in-None-clause-value : goal.returns-in-None-clause-value
returns-in-None-clause-value c = λ seen h.
    let mine = subst (λ (s : List (ℕ × SeqNoWindow)). SeenStandsFor s seen) (sym c.self.view_is) h in
    sym (ap (option_map greatest) (seen_none c.self.inside.windows seen c.args.ssrc mine (sym c.place.ensures.place ∙ c.in-None.is)))
