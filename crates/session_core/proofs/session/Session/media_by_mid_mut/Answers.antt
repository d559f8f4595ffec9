use Rattle.std.proofs.Common.{◌≡◌, inr, Some, None, slice_get, sym, ap, ◌∙◌}
use Rattle.std.specs.Prelude.{◌==◌, option_and_then}
use Rattle.std.specs.Cmp.Lexicographic.{pointwise}
use Rattle.std.specs.Option.{ghost_name_of}
use Rattle.session_core.specs.Medias.{media_of, media_place}
use Rattle.session_core.specs.SessionRecord.{MediaRecord, SessionView}
use Rattle.session_core.proofs.Lent.{find_place, lent_at, lent_back}
use Rattle.session_core.proofs.session.Session.media_by_mid_mut.Goals as goal

pub returns-in_err-place : goal.returns-in_err-place
returns-in_err-place g c =
    let mid = c.args.mid in
    let items = c.self.inside.medias.items in
    let none : None ≡ media_place mid items = c.in_err-place.ensures ∙ ap (media_place mid) c.as_slice.ensures.value in
    rw c.from_residual.ensures (
      ap inr c.self.view_is,
      record {
        writes_back = tt;
        value =
            ap (option_and_then (slice_get items)) none
            ∙ sym (find_place (λ (m : MediaRecord). pointwise ◌==◌ m.mid mid) items)
            ∙ ap (λ (v : SessionView g.row.W.Denot g.row.S.Denot). media_of mid v.state.medias) c.self.view_is;
      },
    )

pub returns : goal.returns
returns g c =
    let mid = c.args.mid in
    let items = c.self.inside.medias.items in
    let is : Some c.in_ok-place.place ≡ media_place mid items = c.in_ok-place.ensures ∙ ap (media_place mid) c.as_slice.ensures.value in (
      lent_back (ghost_name_of c.get_mut.result) _ _ mid c.in_ok-place.place is c.self.view_is,
      record {
        writes_back = tt;
        value =
            lent_at items c.in_ok-place.place c.get_mut.result c.get_mut.ensures.item
            ∙ ap (option_and_then (slice_get items)) is
            ∙ sym (find_place (λ (m : MediaRecord). pointwise ◌==◌ m.mid mid) items)
            ∙ ap (λ (v : SessionView g.row.W.Denot g.row.S.Denot). media_of mid v.state.medias) c.self.view_is;
      },
    )
