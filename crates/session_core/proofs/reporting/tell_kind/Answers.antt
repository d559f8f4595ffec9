use Rattle.std.proofs.Common.{◌≡◌, ℕ, true, false, List, Some, None, slice_get, sym, ap, ◌∙◌}
use Rattle.std.specs.Map.{values_of}
use Rattle.std.specs.Option.{option_copied}
use Rattle.std.specs.Prelude.{is_some}
use Rattle.indexmap.specs.IndexMap.{set_value_at}
use Rattle.stream_core.specs.Reporting.{with_kind}
use Rattle.stream_core.specs.TxRecord.{TxRecord}
use Rattle.session_core.specs.Medias.{media_of}
use Rattle.session_core.specs.Reports.{is_sound, told_kind}
use Rattle.session_core.proofs.Reported.{told_before, without_media, told_now}
use Rattle.session_core.proofs.Tables.{set_change, change_same}
use Rattle.session_core.proofs.reporting.tell_kind.Goals as goal

pub returns-then-is_some : goal.returns-then-is_some
returns-then-is_some g c =
    let es = c.args.streams.now.tx in
    let medias = c.args.medias.now in
    let x = c.tx-stream.result.now in
    let told : is_some x.reports.clock.is_audio ≡ true = ap is_some (sym c.is_audio.ensures) ∙ sym c.is_some.ensures ∙ c.if-is_some.true in
    ap (λ (l : List (ℕ × TxRecord)). record { threshold = c.args.streams.now.threshold; rx = c.args.streams.now.rx; known = c.args.streams.now.known; tx = l; repairs = c.args.streams.now.repairs })
    (sym (change_same (told_kind medias) es c.args.place x c.tx-stream.ensures (told_before x.reports.clock.is_audio (media_of x.mid medias) x told)))

pub returns-in_default : goal.returns-in_default
returns-in_default g c =
    let es = c.args.streams.now.tx in
    let medias = c.args.medias.now in
    let x = c.tx-stream.result.now in
    let none : media_of x.mid medias ≡ None = ap (λ (m : List ℕ). media_of m medias) (sym c.mid.ensures) ∙ sym c.media_of.ensures ∙ ap option_copied c.in_default.is in
    ap (λ (l : List (ℕ × TxRecord)). record { threshold = c.args.streams.now.threshold; rx = c.args.streams.now.rx; known = c.args.streams.now.known; tx = l; repairs = c.args.streams.now.repairs })
    (sym (change_same (told_kind medias) es c.args.place x c.tx-stream.ensures (without_media x.reports.clock.is_audio (media_of x.mid medias) x none)))

pub returns : goal.returns
returns g c =
    let es = c.args.streams.now.tx in
    let medias = c.args.medias.now in
    let x = c.tx-stream.result.now in
    let y = c.tx_at.result.now in
    let first : slice_get (values_of es) c.args.place ≡ Some x = c.tx-stream.ensures in
    let again : slice_get (values_of es) c.args.place ≡ Some y = c.tx_at.ensures.value in
    let same : x ≡ y = cc in
    let new : is_some x.reports.clock.is_audio ≡ false = ap is_some (sym c.is_audio.ensures) ∙ sym c.is_some.ensures ∙ c.if-is_some.false in
    let some : media_of x.mid medias ≡ Some c.in-Some.media.now = ap (λ (m : List ℕ). media_of m medias) (sym c.mid.ensures) ∙ sym c.media_of.ensures ∙ ap option_copied c.in-Some.is in
    let kind = c.is_audio-is_audio.ensures ∙ ap is_sound c.kind.ensures in
    let told : told_kind medias y ≡ c.tell_kind.new.self =
    ap (told_kind medias) (sym same) ∙ told_now x.reports.clock.is_audio (media_of x.mid medias) c.in-Some.media.now x new some
    ∙ ap (with_kind (is_sound c.in-Some.media.now.kind)) same ∙ ap (λ b. with_kind b y) (sym kind) ∙ sym c.tell_kind.ensures in
    ap (λ (l : List (ℕ × TxRecord)). record { threshold = c.args.streams.now.threshold; rx = c.args.streams.now.rx; known = c.args.streams.now.known; tx = l; repairs = c.args.streams.now.repairs })
    (ap (set_value_at es c.args.place) (sym told) ∙ set_change (told_kind medias) es c.args.place y again)
