use Rattle.std.proofs.Common.{◌≡◌, ℕ, subst, true, false, rules}
use Rattle.std.specs.Option.{option_map}
use Rattle.std.proofs.lemmas.Result.{on_ok_weaker}
use Rattle.rtx_core.specs.Resends.{recached}
use Rattle.stream_core.specs.StreamsRecord.{StreamsRecord, with_stream_tx}
use Rattle.stream_core.specs.Tables.{change_at}
use Rattle.media_model.specs.declared.setup.Cache.{Cache}
use Rattle.media_model.specs.Sides.{same_side}
use Rattle.media_play.specs.Starting.{StreamsChange}
use Rattle.media_play.proofs.StartingSteps.{has_words, stream_sends, stream_hears}
use Rattle.media_play.proofs.starting.add_stream.Goals as goal

pub returns-in_ok-declare-clause-starts : goal.returns-in_ok-declare-clause-starts
returns-in_ok-declare-clause-starts g c =
    let s = c.args.stream.now in
    let own : same_side s.side c.args.side ≡ true = search rules in
    let words = has_words c.args.setup.now s c.has_words.ensures.ssrc c.has_words.ensures.rtx in
    let first = subst (λ (n : ℕ). StreamsChange (with_stream_tx s.ssrc (option_map (λ ssrc. (ssrc, n)) s.rtx) c.args.mid s.rid) c.args.session.now c.declare.new.session) c.start.ensures c.in_ok-declare.ensures.stands in
    on_ok_weaker c.keep.result
    (λ kept cipher sent received known once_sent once_heard h.
    stream_sends cipher c.args.setup.now c.args.side sent received s c.args.session.now c.declare.new.session c.keep.new.session c.args.mid words known once_sent once_heard h own first
    (subst (λ (n : Cache). StreamsChange (λ r. let t : StreamsRecord = record r { repairs = change_at s.ssrc (recached n.packets n.age n.cap) r.repairs } in t) c.declare.new.session c.keep.new.session) c.cache.ensures kept))
    c.keep.ensures.stands

pub returns-else-eq-clause-starts : goal.returns-else-eq-clause-starts
returns-else-eq-clause-starts g c =
    let s = c.args.stream.now in
    let others : same_side s.side c.args.side ≡ false = search rules in
    let words = has_words c.args.setup.now s c.has_words.ensures.ssrc c.has_words.ensures.rtx in
    on_ok_weaker c.expect.result
    (λ says cipher sent received known once_sent once_heard h.
    stream_hears cipher c.args.setup.now c.args.side sent received s c.args.session.now c.expect.new.session c.expect.new.session c.args.mid words known once_sent once_heard h others says)
    c.expect.ensures.stands
