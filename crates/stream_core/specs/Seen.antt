-- The numbers under which datagrams opened, for each SSRC.
use Rattle.std.specs.Prelude.{◌<◌, ℕ, Bool, true, List, [], ◌∷◌, ◌++◌, Option, None}
use Rattle.std.specs.Option.{option_map, option_map_or}
use Rattle.rtp_base.specs.declared.number.TheConstants.{NUMBER_LIMIT}
use Rattle.rtp_base.specs.declared.window.SeqNoWindow.{SeqNoWindow}
use Rattle.rtp_base.specs.Window.{greatest, is_fresh_rtx, with_fresh, StandsFor as WindowStandsFor}
use Rattle.stream_core.specs.Tables.{value_under, place_of, change_place, Along}

-- of the numbers that opened under one SSRC, in order, a window keeps the greatest and which of the last 128 are among them
abbrev pub Saw : SeqNoWindow → List ℕ → Type 0
Saw w numbers = WindowStandsFor w None numbers × (greatest numbers < NUMBER_LIMIT)

abbrev pub SeenStandsFor : List (ℕ × SeqNoWindow) → List (ℕ × List ℕ) → Type 0
SeenStandsFor ws seen = Along Saw ws seen

-- the greatest number that opened under an SSRC
abbrev pub seen_of : ℕ → List (ℕ × List ℕ) → Option ℕ
seen_of ssrc seen = option_map greatest (value_under ssrc seen)

-- no datagram opened under an SSRC and this number, and it is above the greatest that opened less 128
abbrev pub is_unseen : ℕ → ℕ → List (ℕ × List ℕ) → Bool
is_unseen ssrc n seen = option_map_or (λ numbers. is_fresh_rtx numbers n) (value_under ssrc seen) true

-- one more number opened under an SSRC; one that is 128 or more below the greatest, or that opened before, is passed over
abbrev pub saw : ℕ → ℕ → List (ℕ × List ℕ) → List (ℕ × List ℕ)
saw ssrc n seen = option_map_or (change_place (λ numbers. with_fresh None numbers n) seen) (place_of ssrc seen) (seen ++ (ssrc, n ∷ []) ∷ [])
