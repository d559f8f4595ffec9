use Rattle.std.proofs.Common.{◌≡◌, Some, None, refl, sym, ap, subst, ◌∙◌}
use Rattle.stream_core.specs.Names.{described_by}
use Rattle.stream_core.specs.Pauses.{view_untold, on_record}
use Rattle.stream_core.specs.RxRecord.{RxView, StandsFor as RxStandsFor}
use Rattle.stream_core.specs.StreamsRecord.{StreamsView}
use Rattle.stream_core.specs.Tables.{place_of}
use Rattle.stream_core.proofs.Alongside.{change_at_none}
use Rattle.stream_core.proofs.RxSteps.{state_step}
use Rattle.stream_core.proofs.StreamsSteps.{rx_changed}
use Rattle.stream_core.proofs.Untold.{none_same}
use Rattle.stream_core.proofs.streams.Streams.handle_description.Goals as goal

pub invariant_of-self : goal.invariant_of-self
invariant_of-self g c =
    none_same view_untold c.self.inside.rx c.in-Some.place c.self.inside.next_untold c.at_mut.result.now c.handle_description.new.self c.at_mut.ensures.value
    (ap (λ (v : RxView g.row.W.Denot). v.state.untold) c.handle_description.ensures) c.self.invariant

pub returns-in-Some-clause-heard : goal.returns-in-Some-clause-heard
returns-in-Some-clause-heard g c = λ r h.
    let m = g.W.GapWindow.remembers in
    let news = described_by c.args.description in
    let place : place_of c.args.description.ssrc c.args.self.now.rx ≡ Some c.in-Some.place =
    ap (λ (v : StreamsView g.row.W.Denot g.row.S.Denot). place_of c.args.description.ssrc v.rx) (sym c.self.view_is) ∙ sym c.place.ensures.place ∙ c.in-Some.is in
    rx_changed m g.S.ResendStore.stands_for c.args.description.ssrc c.args.self.now _ c.in-Some.place c.at_mut.result.now c.handle_description.new.self (on_record news) _ c.self.view_is c.at_mut.ensures.value
    (λ y k. subst (λ v. RxStandsFor m v (on_record news y)) (sym c.handle_description.ensures) (state_step m news c.at_mut.result.now y k)) refl r h place

pub returns-in_default-clause-heard : goal.returns-in_default-clause-heard
returns-in_default-clause-heard g c = λ r h.
    let none : place_of c.args.description.ssrc c.args.self.now.rx ≡ None =
    ap (λ (v : StreamsView g.row.W.Denot g.row.S.Denot). place_of c.args.description.ssrc v.rx) (sym c.self.view_is) ∙ sym c.place.ensures.place ∙ c.in_default.is in
    record {
      threshold = h.threshold;
      known = h.known;
      rx = change_at_none (RxStandsFor g.W.GapWindow.remembers) c.args.self.now.rx r.rx c.args.description.ssrc (on_record (described_by c.args.description)) h.rx none;
      tx = h.tx;
      repairs = h.repairs;
    }
