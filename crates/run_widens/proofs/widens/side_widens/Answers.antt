use Rattle.std.proofs.Common.{◌≡◌, ◌<◌, ◌≤◌, List, length, get_or, refl, sym, subst}
use Rattle.std.specs.List.{filter_map, flat_map}
use Rattle.std.proofs.lemmas.List.{take_all}
use Rattle.media_model.specs.declared.entry.Side.{Side}
use Rattle.media_model.specs.declared.setup.Media.{Media}
use Rattle.media_model.specs.declared.setup.Setup.{Setup}
use Rattle.media_model.specs.declared.setup.Stream.{Stream}
use Rattle.media_model.specs.Sides.{peer_of}
use Rattle.run_model.specs.Events.{Outgoing}
use Rattle.run_model.specs.Transcripts.{outgoing_in}
use Rattle.run_widens.specs.Widens.{AllWiden}
use Rattle.run_widens.proofs.Streams.{section_more, section_stops}
use Rattle.run_widens.proofs.widens.side_widens.Goals as goal

-- the streams that the other side sends, of some and of a section
abbrev sent_in : Setup → Side → List Stream → List Outgoing
sent_in setup side streams = filter_map (outgoing_in setup (peer_of side)) streams

abbrev sent_of : Setup → Side → Media → List Outgoing
sent_of setup side media = sent_in setup side media.streams

pub returns-then-not-branch : goal.returns-then-not-branch
returns-then-not-branch c =
    let a = c.args in
    let setup = a.setup.now in
    let i = c.loop-media.media-index in
    let media = c.media-item.result in
    let items = c.as_slice-media-items.ensures in
    let lt = subst (λ (xs : List Media). i < length xs) items c.loop-media-test.true in
    let is = subst (λ (xs : List Media). media ≡ get_or xs i media) items c.media-item.is in
    let all = λ (ss : List Stream).
    AllWiden setup a.exts.now a.side (sent_in setup a.side ss) a.entries.now in (
      λ t. absurd cc,
      λ w.
          let here =
          section_stops setup a.exts.now a.side a.entries.now setup.media i lt media is
          (sent_of setup a.side) w in
          let told = c.in_ok-streams_widen.ensures.1 (subst all (sym c.as_slice.ensures) here) in
          absurd (cc (told, c.if-not-branch.true)),
    )

pub loop-media-preserved : goal.loop-media-preserved
loop-media-preserved c =
    let a = c.args in
    let setup = a.setup.now in
    let i = c.loop-media.media-index in
    let media = c.media-item.result in
    let items = c.as_slice-media-items.ensures in
    let lt = subst (λ (xs : List Media). i < length xs) items c.loop-media-test.true in
    let is = subst (λ (xs : List Media). media ≡ get_or xs i media) items c.media-item.is in
    let all = λ (ss : List Stream).
    AllWiden setup a.exts.now a.side (sent_in setup a.side ss) a.entries.now in
    let told = c.in_ok-streams_widen.ensures.0 c.if-not-branch.false in
    section_more setup a.exts.now a.side a.entries.now setup.media i lt media is
    (sent_of setup a.side) c.loop-media.invariant (subst all c.as_slice.ensures told)

pub returns : goal.returns
returns c =
    let a = c.args in
    let setup = a.setup.now in
    let i = c.loop-media.media-index in
    let items = c.as_slice-media-items.ensures in
    let ended = subst (λ (xs : List Media). length xs ≤ i) items c.loop-media-test.false in
    let all = λ (xs : List Media).
    AllWiden setup a.exts.now a.side (flat_map (sent_of setup a.side) xs) a.entries.now in (
      λ t. subst all (take_all i setup.media ended) c.loop-media.invariant,
      λ w. refl,
    )
