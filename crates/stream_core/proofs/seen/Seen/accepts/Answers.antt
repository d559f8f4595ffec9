use Rattle.std.proofs.Common.{ℕ, true, List, None, sym, ap, subst, ◌∙◌}
use Rattle.std.specs.Option.{option_map_or}
use Rattle.rtp_base.specs.declared.window.SeqNoWindow.{SeqNoWindow}
use Rattle.rtp_base.specs.Window.{is_fresh_rtx}
use Rattle.stream_core.specs.Seen.{SeenStandsFor}
use Rattle.stream_core.proofs.SeenSteps.{seen_none, seen_at}
use Rattle.stream_core.proofs.seen.Seen.accepts.Goals as goal

pub returns-in-Some : goal.returns-in-Some
returns-in-Some c = λ seen h.
    let mine = subst (λ (s : List (ℕ × SeqNoWindow)). SeenStandsFor s seen) (sym c.self.view_is) h in
    let k = seen_at c.self.inside.windows seen c.args.ssrc mine c.in-Some.place c.at.result.now (sym c.place.ensures.place ∙ c.in-Some.is) c.at.ensures in
    c.accepts.ensures None k.0 k.2.0 ∙ sym (ap (λ o. option_map_or (λ l. is_fresh_rtx l c.args.number) o true) k.1)

pub returns-in-None : goal.returns-in-None
returns-in-None c = λ seen h.
    let mine = subst (λ (s : List (ℕ × SeqNoWindow)). SeenStandsFor s seen) (sym c.self.view_is) h in
    let none = seen_none c.self.inside.windows seen c.args.ssrc mine (sym c.place.ensures.place ∙ c.in-None.is) in
    sym (ap (λ o. option_map_or (λ l. is_fresh_rtx l c.args.number) o true) none)
