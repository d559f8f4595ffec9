use Rattle.std.proofs.Common.{◌≡◌, ℕ, List, ap, sym, ◌∙◌}
use Rattle.indexmap.specs.IndexMap.{set_value_at}
use Rattle.mask_register.specs.declared.register.MaskRegister.{MaskRegister}
use Rattle.stream_core.specs.Pauses.{on_view}
use Rattle.stream_core.specs.Requests.{with_keyframe, with_bitrate}
use Rattle.stream_core.specs.RxRecord.{RxView}
use Rattle.stream_core.specs.Tables.{change_place}
use Rattle.session_turns.specs.Laws.{requesting}
use Rattle.media_play.specs.declared.request.Request.{Request}
use Rattle.media_play.specs.Requests.{requested}
use Rattle.media_play.proofs.Keys.{set_change}
use Rattle.media_play.proofs.end.request.Goals as goal

pub returns-in-Keyframe : goal.returns-in-Keyframe
returns-in-Keyframe g c =
    let old = c.args.session.now in
    let place = c.args.place in
    let f : RxView MaskRegister → RxView MaskRegister = on_view (requesting (with_keyframe c.in-Keyframe.kind)) in
    let rx : set_value_at c.streams.result.now.rx place c.request_keyframe.new.self ≡ change_place (on_view (requesting (requested c.args.request))) old.rx place =
    ap (set_value_at c.streams.result.now.rx place) c.request_keyframe.ensures ∙ set_change f c.streams.result.now.rx place c.rx_at.result.now c.rx_at.ensures.value
    ∙ ap (λ (l : List (ℕ × RxView MaskRegister)). change_place f l place) c.streams.ensures.rx
    ∙ ap (λ (q : Request). change_place (on_view (requesting (requested q))) old.rx place) (sym c.in-Keyframe.is) in
    λ j. record { state = record old.state { tx = c.streams.ensures.tx j; pause_threshold = c.streams.ensures.threshold j }; rx = rx j; probes = old.probes; repairs = c.streams.ensures.repairs j; known = c.streams.ensures.known j; seen = old.seen }

pub returns-in-Rate : goal.returns-in-Rate
returns-in-Rate g c =
    let old = c.args.session.now in
    let place = c.args.place in
    let f : RxView MaskRegister → RxView MaskRegister = on_view (requesting (with_bitrate c.in-Rate.rate)) in
    let rx : set_value_at c.streams-in-Rate.result.now.rx place c.request_remb.new.self ≡ change_place (on_view (requesting (requested c.args.request))) old.rx place =
    ap (set_value_at c.streams-in-Rate.result.now.rx place) c.request_remb.ensures ∙ set_change f c.streams-in-Rate.result.now.rx place c.rx_at-in-Rate.result.now c.rx_at-in-Rate.ensures.value
    ∙ ap (λ (l : List (ℕ × RxView MaskRegister)). change_place f l place) c.streams-in-Rate.ensures.rx
    ∙ ap (λ (q : Request). change_place (on_view (requesting (requested q))) old.rx place) (sym c.in-Rate.is) in
    λ j. record { state = record old.state { tx = c.streams-in-Rate.ensures.tx j; pause_threshold = c.streams-in-Rate.ensures.threshold j }; rx = rx j; probes = old.probes; repairs = c.streams-in-Rate.ensures.repairs j; known = c.streams-in-Rate.ensures.known j; seen = old.seen }
