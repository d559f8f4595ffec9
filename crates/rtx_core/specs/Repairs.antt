-- Which repairs are taken on an incoming stream, by their own numbers.
use Rattle.std.specs.Prelude.{ℕ, ◌<◌, Bool, List, [], Option, Some, None}
use Rattle.rtp_base.specs.Widen.{widen16}
use Rattle.rtp_base.specs.Window.{is_fresh_after, with_fresh, greatest_after, StandsFor as WindowStandsFor}
use Rattle.rtp_base.specs.declared.number.TheConstants.{NUMBER_LIMIT}
use Rattle.rtp_base.specs.declared.window.SeqNoWindow.{SeqNoWindow}

-- the greatest number that was seen on the SSRC of the first repair that opened, if one was; and the numbers of the repairs
-- that were taken since, in order
pub record RepairPast : Type 0 where
  pub floor : Option ℕ
  pub tried : List ℕ

-- of a stream on which no repair opened the past is None; the greatest number that is seen on the SSRC of a repair counts then
abbrev pub repair_near : Option ℕ → Option RepairPast → Option ℕ
repair_near seen None = seen
repair_near seen (Some past) = Some (greatest_after past.floor past.tried)

-- the number of a repair with these low 16 bits
abbrev pub repair_number : Option ℕ → Option RepairPast → ℕ → ℕ
repair_number seen past low = widen16 (repair_near seen past) low

-- a repair with this number may be taken: the number is above the floor, and above the greatest that was taken, or above that
-- less 128 and not among them
abbrev pub is_fresh_repair : Option ℕ → Option RepairPast → ℕ → Bool
is_fresh_repair seen None n = is_fresh_after seen [] n
is_fresh_repair seen (Some past) n = is_fresh_after past.floor past.tried n

-- a repair with this number opened
abbrev pub repair_opened : Option ℕ → ℕ → Option RepairPast → Option RepairPast
repair_opened seen n None = Some (record { floor = seen; tried = with_fresh seen [] n })
repair_opened seen n (Some past) = Some (record { floor = past.floor; tried = with_fresh past.floor past.tried n })

abbrev pub Remembers : Option SeqNoWindow → Option RepairPast → Type 0
Remembers None None = Unit {0}
Remembers None (Some past) = ⊥
Remembers (Some w) None = ⊥
Remembers (Some w) (Some past) = WindowStandsFor w past.floor past.tried × (greatest_after past.floor past.tried < NUMBER_LIMIT)
