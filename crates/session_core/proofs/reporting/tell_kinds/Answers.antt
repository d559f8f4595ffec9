use Rattle.std.proofs.Common.{◌≡◌, ◌≤◌, ℕ, List, length, sym, ap, ◌∙◌, add-one, arith}
use Rattle.stream_core.specs.StreamsRecord.{StreamsView}
use Rattle.stream_core.specs.Tables.{change_place}
use Rattle.stream_core.specs.TxRecord.{TxRecord}
use Rattle.session_core.specs.Reports.{told_kind}
use Rattle.session_core.proofs.Tables.{upto, upto_step, upto_length, upto_all}
use Rattle.session_core.proofs.reporting.tell_kinds.Goals as goal

pub tell_kind-requires : goal.tell_kind-requires
tell_kind-requires g c =
    let here : length c.loop-place.streams.tx ≡ length c.args.streams.now.tx =
    ap (λ (v : StreamsView g.row.W.Denot g.row.S.Denot). length v.tx) c.loop-place.invariant
    ∙ upto_length (told_kind c.args.medias.now) c.loop-place.place c.args.streams.now.tx in
    omega (arith, c.tx_len-place-end.ensures)

pub loop-place-preserved : goal.loop-place-preserved
loop-place-preserved g c =
    let f = told_kind c.args.medias.now in
    let i = c.loop-place.place in
    let all = c.args.streams.now.tx in
    c.tell_kind.ensures
    ∙ ap (λ (v : StreamsView g.row.W.Denot g.row.S.Denot). record { threshold = v.threshold; rx = v.rx; known = v.known; tx = change_place f v.tx i; repairs = v.repairs }) c.loop-place.invariant
    ∙ ap (λ (l : List (ℕ × TxRecord)). record { threshold = c.args.streams.now.threshold; rx = c.args.streams.now.rx; known = c.args.streams.now.known; tx = l; repairs = c.args.streams.now.repairs })
    (upto_step f i all ∙ ap (λ n. upto f n all) (sym (add-one i)))

pub returns : goal.returns
returns g c =
    let f = told_kind c.args.medias.now in
    let all = c.args.streams.now.tx in
    let long : length all ≤ c.loop-place.place = omega arith in
    c.loop-place.invariant
    ∙ ap (λ (l : List (ℕ × TxRecord)). record { threshold = c.args.streams.now.threshold; rx = c.args.streams.now.rx; known = c.args.streams.now.known; tx = l; repairs = c.args.streams.now.repairs })
    (upto_all f c.loop-place.place all long)
