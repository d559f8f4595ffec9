-- When incoming streams are paused, and what is told of it.
use Rattle.std.specs.Prelude.{◌≡◌, ℕ, zero, suc, nat_le, Bool, true, false, is_none, if◌then◌else◌, List, [], ◌∷◌, take, slice_get, Option, Some, None, option_and_then}
use Rattle.std.specs.Map.{values_of}
use Rattle.std.specs.Option.{option_map, option_map_or}
use Rattle.media_units.specs.Soonest.{earlier}
use Rattle.stream_core.specs.declared.stream_paused.StreamPaused.{StreamPaused}
use Rattle.stream_core.specs.RxRecord.{RxState, RxView, RxRecord}
use Rattle.stream_core.specs.Tables.{change_place}

abbrev pub is_over : Option ℕ → ℕ → Bool
is_over None now = false
is_over (Some t) now = nat_le t now

-- a tick: the stream is paused where the moment has come
abbrev pub checked : ℕ → RxState → RxState
checked now s = if is_over s.pause_at now then record s { pause_at = None; untold = true } else s

-- a change of all but the window
abbrev pub on_view : {W : Type 0} → (RxState → RxState) → RxView W → RxView W
on_view f v = record v { state = f v.state }

abbrev pub on_record : (RxState → RxState) → RxRecord → RxRecord
on_record f r = record r { state = f r.state }

-- what is told of a stream that was paused or unpaused
abbrev pub pause_of : RxState → StreamPaused
pause_of s = record { ssrc = s.ssrc; mid = s.mid; rid = s.rid; paused = is_none s.pause_at }

abbrev pub told_of : RxState → Option StreamPaused
told_of s = if s.untold then Some (pause_of s) else None

abbrev pub told : RxState → RxState
told s = record s { untold = false }

-- the place of the first value of which this holds
abbrev pub first_where : {X : Type 0} → (X → Bool) → List (ℕ × X) → Option ℕ
first_where p [] = None
first_where p (e ∷ es) = if p e.1 then Some zero else option_map suc (first_where p es)

-- a round trip was told
abbrev pub with_trip : Option ℕ → RxState → RxState
with_trip trip s = record s { trip = trip }

-- the first moment at which some stream is paused unless something comes, or an earlier one
abbrev pub pause_before : Option ℕ → List (ℕ × RxRecord) → Option ℕ
pause_before first [] = first
pause_before first (e ∷ es) = pause_before (earlier first e.1.state.pause_at) es

abbrev pub first_pause : List (ℕ × RxRecord) → Option ℕ
first_pause rs = pause_before None rs

-- of an incoming stream something is to be told
abbrev pub view_untold : {W : Type 0} → RxView W → Bool
view_untold v = v.state.untold

abbrev pub is_untold : RxRecord → Bool
is_untold r = r.state.untold

-- what is told next, of the first stream in order, and the streams after it was told
abbrev pub next_pause : List (ℕ × RxRecord) → Option StreamPaused
next_pause rs = option_and_then (λ r. told_of r.state) (option_and_then (slice_get (values_of rs)) (first_where is_untold rs))

abbrev pub after_pause : List (ℕ × RxRecord) → List (ℕ × RxRecord)
after_pause rs = option_map_or (change_place (on_record told) rs) (first_where is_untold rs) rs

-- all that is told, in order of the streams
abbrev pub pauses : List (ℕ × RxRecord) → List StreamPaused
pauses [] = []
pauses (e ∷ es) = if e.1.state.untold then pause_of e.1.state ∷ pauses es else pauses es

-- of so many streams something is to be told
abbrev pub untold_in : {W : Type 0} → List (ℕ × RxView W) → ℕ
untold_in [] = 0
untold_in (e ∷ es) = if e.1.state.untold then suc (untold_in es) else untold_in es

-- of no stream before a place anything is to be told
abbrev pub IsToldTo : {W : Type 0} → ℕ → List (ℕ × RxView W) → Type 0
IsToldTo place es = first_where view_untold (take place es) ≡ None
