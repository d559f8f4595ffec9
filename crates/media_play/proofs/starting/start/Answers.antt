use Rattle.std.proofs.Common.{List, take, sym, ap, subst, ◌∙◌}
use Rattle.std.specs.List.{flat_map}
use Rattle.std.proofs.lemmas.List.{take_all}
use Rattle.media_model.specs.declared.entry.Side.{Side}
use Rattle.media_model.specs.declared.setup.Media.{Media}
use Rattle.media_model.specs.Sides.{peer_of}
use Rattle.media_play.specs.Ends.{EndSession}
use Rattle.media_play.specs.Starting.{AreOnce, outgoing_at, Starts}
use Rattle.media_play.proofs.Started.{started}
use Rattle.media_play.proofs.StartingSetup.{facts}
use Rattle.media_play.proofs.StartingLists.{flat_more, flat_once}
use Rattle.media_play.proofs.StartingSteps.{starts_same}
use Rattle.media_play.proofs.starting.start.Goals as goal

pub with_keys-requires : goal.with_keys-requires
with_keys-requires g c = let f = facts c.args.setup.now c.requires in record { key = f.key; mtu = f.mtu; types = f.types }

pub loop-media-preserved : goal.loop-media-preserved
loop-media-preserved g c =
    let xs = c.as_slice-media-items.result.now in
    let i = c.loop-media.media-index in
    let x = c.media-item.result in
    let within = c.loop-media-test.true in
    let read = c.media-item.is in
    let setup = c.args.setup.now in
    let once = λ (side : Side). subst (λ (l : List Media). AreOnce (flat_map (outgoing_at setup side) l)) (sym c.as_slice-media-items.ensures) ((facts setup c.requires).once side) in
    let own = outgoing_at setup c.args.side in
    let others = outgoing_at setup (peer_of c.args.side) in
    starts_same g.C.SrtpCipher.meaning setup c.args.side _ _ _ _ c.add_media.new.session (flat_more own xs i x within read) (flat_more others xs i x within read)
    (c.in_ok-add_media.ensures g.C.SrtpCipher.meaning _ _ (flat_once own xs i x within read (once c.args.side)) (flat_once others xs i x within read (once (peer_of c.args.side)))
    (subst (λ (v : EndSession). Starts g.C.SrtpCipher.meaning setup c.args.side (flat_map own (take i xs)) (flat_map others (take i xs)) v) (sym c.deref_mut.ensures.value) c.loop-media.invariant))

pub returns : goal.returns
returns g c =
    let setup = c.args.setup.now in
    let all = take_all c.loop-media.media-index c.as_slice-media-items.result.now c.loop-media-test.false ∙ c.as_slice-media-items.ensures in
    started g.C.SrtpCipher.meaning setup c.args.side c.loop-media.session.value (facts setup c.requires)
    (starts_same g.C.SrtpCipher.meaning setup c.args.side _ _ _ _ c.loop-media.session.value (ap (λ (l : List Media). flat_map (outgoing_at setup c.args.side) l) all)
    (ap (λ (l : List Media). flat_map (outgoing_at setup (peer_of c.args.side)) l) all) c.loop-media.invariant)
