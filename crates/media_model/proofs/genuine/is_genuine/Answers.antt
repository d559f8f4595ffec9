use Rattle.std.proofs.Common.{List, take, sym, ◌∙◌, subst}
use Rattle.media_model.specs.declared.entry.Entry.{Entry}
use Rattle.media_model.specs.Seals.{HasSeals, HasLatest}
use Rattle.media_model.specs.Genuine.{is_genuine}
use Rattle.media_model.proofs.Seals.{front_more, goes_on, stops, all_passed}
use Rattle.media_model.proofs.genuine.is_genuine.Goals as goal

pub returns-then-not-is_sealed : goal.returns-then-not-is_sealed
returns-then-not-is_sealed c =
    let l = c.loop-entry in
    let k = l.invariant in
    let before = take l.entry-index c.args.entries.now in
    stops c.args.entries.now l.entry-index c.loop-entry-test.true c.entry-item.result c.entry-item.is
    (sym (c.is_sealed.ensures before k.seals k.last) ∙ c.if-not-is_sealed.true) (is_genuine c.args.entries.now) k.rest

pub loop-entry-preserved : goal.loop-entry-preserved
loop-entry-preserved c =
    let l = c.loop-entry in
    let k = l.invariant in
    let entries = c.args.entries.now in
    let before = take l.entry-index entries in
    let e = c.entry-item.result in
    let more = front_more entries l.entry-index c.loop-entry-test.true e c.entry-item.is in
    record {
      rest =
          goes_on entries l.entry-index c.loop-entry-test.true e c.entry-item.is
          (sym (c.is_sealed.ensures before k.seals k.last) ∙ c.if-not-is_sealed.false) (is_genuine entries) k.rest;
      seals = subst (λ (es : List Entry). HasSeals c.add_seal.new.sealed es) (sym more) (c.in_ok-add_seal.ensures before k.seals);
      last = subst (λ (es : List Entry). HasLatest c.after-latest.result es) (sym more) (c.after-latest.ensures before k.last);
    }

pub returns : goal.returns
returns c = all_passed c.args.entries.now c.loop-entry.entry-index c.loop-entry.sealed c.loop-entry.latest c.loop-entry-test.false c.loop-entry.invariant
