-- A media section is lent.
use base.Fml.{GName}
use mathlib.Core.Option.{Option as Perhaps}
use borrow.Follows.Closed.{read_of}
use Rattle.std.proofs.Common.{◌≡◌, ℕ, Bool, true, false, cond, List, Option, Some, None, length, nat_lt, slice_get, slice_set, position, refl, sym, ap, ◌∙◌, MutBor}
use Rattle.std.specs.Prelude.{find, option_and_then}
use Rattle.std.specs.List.{IsItemAtMut, position_or_len}
use Rattle.std.specs.Option.{option_map_or, option_copied_mut}
use Rattle.std.proofs.lemmas.Bool.{ltb-false}
use Rattle.std.proofs.lemmas.List.Folds.{find_at}
use Rattle.std.proofs.lemmas.Option.{slice_get_past, slice_get_read}
use Rattle.session_core.specs.Medias.{media_place, with_media}
use Rattle.session_core.specs.SessionRecord.{MediaRecord, SessionView}

-- the first element that passes stands at its place
pub find_place : {X : Type 0} (p : X → Bool) (xs : List X) → find p xs ≡ option_and_then (slice_get xs) (position p xs)
find_place p xs = find_at p xs ∙ by (nat_lt (position_or_len p xs) (length xs)) refl
  where
    by : (b : Bool) → nat_lt (position_or_len p xs) (length xs) ≡ b → slice_get xs (position_or_len p xs) ≡ option_and_then (slice_get xs) (cond b (Some (position_or_len p xs)) None)
    by true e = refl
    by false e = slice_get_past xs (position_or_len p xs) (ltb-false (position_or_len p xs) (length xs) e)

-- what an element that is lent is
pub lent_at : {X : Type 0} (xs : List X) (i : ℕ) (r : Option (MutBor X)) → IsItemAtMut xs i r → option_copied_mut r ≡ slice_get xs i
lent_at xs i None item = sym (slice_get_past xs i item.3)
lent_at xs i (Some x) item = sym (slice_get_read xs (length xs) i x.now refl item.3.0 item.1)

-- the session that lends the one at the place of a mid
pub lent_back : {W S : Type 0} (name : Perhaps GName) (v s : SessionView W S) (mid : List ℕ) (place : ℕ) → Some place ≡ media_place mid v.state.medias → v ≡ s
    → read_of name (λ (x : MediaRecord). record v { state = record v.state { medias = slice_set v.state.medias place x } }) v
    ≡ read_of name (λ (x : MediaRecord). record s { state = record s.state { medias = with_media mid s.state.medias x } }) s
lent_back {W} {S} name v s mid place is same =
    ap (λ (o : Option ℕ). read_of name (λ (x : MediaRecord). record v { state = record v.state { medias = option_map_or (λ (i : ℕ). slice_set v.state.medias i x) o v.state.medias } }) v) is
    ∙ ap (λ (u : SessionView W S). read_of name (λ (x : MediaRecord). record u { state = record u.state { medias = with_media mid u.state.medias x } }) u) same
