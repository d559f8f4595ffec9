use Rattle.std.proofs.Common.{◌≡◌, Some, sym, ap, subst, ◌∙◌}
use Rattle.indexmap.specs.IndexMap.{set_value_at}
use Rattle.stream_core.specs.StreamsRecord.{StreamsView, StandsFor, with_reset_tx}
use Rattle.stream_core.specs.Tables.{place_of}
use Rattle.stream_core.proofs.ResetSteps.{reset_some, reset_none}
use Rattle.stream_core.proofs.streams.Streams.reset_at.Goals as goal

pub returns-in_ok-rename_with-in-Some-clause-ok : goal.returns-in_ok-rename_with-in-Some-clause-ok
returns-in_ok-rename_with-in-Some-clause-ok g c = λ r h.
    let said = c.in_ok-rename_with-in-Some.ensures in
    let here : place_of c.args.ssrc c.self.inside.tx ≡ Some c.args.place = ap (λ (v : StreamsView g.row.W.Denot g.row.S.Denot). place_of c.args.ssrc v.tx) c.self.view_is ∙ c.requires.here in
    let view : StreamsView g.row.W.Denot g.row.S.Denot = record {
      threshold = c.self.inside.pause_threshold;
      rx = c.self.inside.rx;
      known = c.self.inside.known;
      tx = set_value_at c.rename_with.new.one c.args.place c.reset_ssrc.new.self;
      repairs = c.remove.new.self;
    } in
    subst (λ o. StandsFor g.W.GapWindow.remembers g.S.ResendStore.stands_for view (with_reset_tx c.args.ssrc c.args.new_ssrc o r)) (sym c.in-Some.is)
    (reset_some g.W.GapWindow.remembers g.S.ResendStore.stands_for c.args.self.now _ c.self.view_is c.args.ssrc c.args.new_ssrc c.args.place here c.has_cap-capped.result c.has_cap-capped.ensures c.in-Some.start.0 c.in-Some.start.1
    c.rename_with.new.one c.at_mut-stream.result.now c.reset_ssrc.new.self c.in_ok-repairs-in-Some.repairs c.rename_with.new.other c.remove.new.self
    said.one c.at_mut-stream.ensures.value c.reset_ssrc.ensures c.in_ok-repairs-in-Some.ensures said.other c.remove.ensures.removed r h)

pub returns-in_ok-rename-in-None-clause-ok : goal.returns-in_ok-rename-in-None-clause-ok
returns-in_ok-rename-in-None-clause-ok g c = λ r h.
    let here : place_of c.args.ssrc c.self.inside.tx ≡ Some c.args.place = ap (λ (v : StreamsView g.row.W.Denot g.row.S.Denot). place_of c.args.ssrc v.tx) c.self.view_is ∙ c.requires.here in
    let view : StreamsView g.row.W.Denot g.row.S.Denot = record {
      threshold = c.self.inside.pause_threshold;
      rx = c.self.inside.rx;
      known = c.self.inside.known;
      tx = set_value_at c.rename.new.self c.args.place c.reset_ssrc-in-None.new.self;
      repairs = c.remove-in-None.new.self;
    } in
    subst (λ o. StandsFor g.W.GapWindow.remembers g.S.ResendStore.stands_for view (with_reset_tx c.args.ssrc c.args.new_ssrc o r)) (sym c.in-None.is)
    (reset_none g.W.GapWindow.remembers g.S.ResendStore.stands_for c.args.self.now _ c.self.view_is c.args.ssrc c.args.new_ssrc c.args.place here c.has_cap-capped.result c.has_cap-capped.ensures
    c.rename.new.self c.at_mut-alone.result.now c.reset_ssrc-in-None.new.self c.remove-in-None.new.self
    c.in_ok-rename-in-None.ensures.ok c.at_mut-alone.ensures.value c.reset_ssrc-in-None.ensures c.remove-in-None.ensures.removed r h)
