-- The record of an incoming stream, and how each call changes it.
use Rattle.std.specs.Prelude.{◌≡◌, ◌+◌, ◌==◌, nat_le, ℕ, Bool, true, false, not, ◌&&◌, ◌||◌, if◌then◌else◌, map, List, [], ◌∷◌, ◌++◌, Option, Some, None}
use Rattle.std.specs.List.{list_all}
use Rattle.repair_core.specs.Fresh.{greatest_of, is_fresh}
use Rattle.repair_core.specs.Rounds.{Heard, started_at, came, round, taken, is_pending}
use Rattle.rtp_base.specs.declared.kind.Kind.TheVariants.{Rtp}
use Rattle.run_model.specs.Events.{Plain, Event, ticked, got, opened, yielded, Types, Incoming}
use Rattle.run_model.specs.Sending.{is_some}
use Rattle.run_model.specs.Seals.{Sealing}
use Rattle.run_model.specs.TxPlay.{is_sealing}
use Rattle.run_model.specs.Receiving.{begun_taken, Lists, is_repair, floor_of, restored, concerns, yields, Opens}

-- what the register was told since it was made, if it was; the numbers of the repair datagrams, with their floor; the numbers seen
-- under both SSRCs; and when the stream is paused, while it is not
pub record RxRecord : Type 0 where
  pub numbers : Option Heard
  pub tried : List ℕ
  pub floor : Option ℕ
  pub seen_main : List ℕ
  pub seen_rtx : List ℕ
  pub pause_at : Option ℕ

abbrev pub new_rx : RxRecord
new_rx = record { numbers = None; tried = []; floor = None; seen_main = []; seen_rtx = []; pause_at = None }

abbrev pub taken_in : Option Heard → List ℕ
taken_in None = []
taken_in (Some h) = taken h

-- the lists that the record holds
abbrev pub lists_in : RxRecord → Lists
lists_in x = record { seen_main = x.seen_main; seen_rtx = x.seen_rtx; tried = x.tried; floor = x.floor; taken = taken_in x.numbers }

-- the register, made of the greatest number seen where there is none yet
abbrev pub register : List ℕ → Option Heard → Heard
register seen None = started_at (greatest_of seen)
register seen (Some h) = h

abbrev pub rx_first : ℕ → ℕ → RxRecord → RxRecord
rx_first pause n x = record x { numbers = Some (came (register x.seen_main x.numbers) n); seen_main = x.seen_main ++ n ∷ []; pause_at = Some pause }

-- a repair datagram: first its own number
abbrev pub rx_tried : Incoming → ℕ → ℕ → ℕ → RxRecord → RxRecord
rx_tried L pause ssrc n x = record x {
  tried = x.tried ++ n ∷ [];
  floor = floor_of L (lists_in x) ssrc;
  seen_main = if ssrc == L.ssrc then x.seen_main ++ n ∷ [] else x.seen_main;
  seen_rtx = if ssrc == L.ssrc then x.seen_rtx else x.seen_rtx ++ n ∷ [];
  pause_at = Some pause;
}

-- then the number that it restores, which is taken where it is fresh
abbrev pub rx_restored : Option ℕ → RxRecord → RxRecord
rx_restored None x = x
rx_restored (Some q) x = record x {
  numbers = if is_fresh (begun_taken (lists_in x)) q then Some (came (register x.seen_main x.numbers) q) else x.numbers;
  seen_main = x.seen_main ++ q ∷ [];
}

abbrev pub rx_opened : Types → Incoming → ℕ → ℕ → ℕ → Plain → RxRecord → RxRecord
rx_opened T L pause ssrc n p x =
    if is_repair T L ssrc p then rx_restored (restored L (lists_in x) ssrc n p) (rx_tried L pause ssrc n x) else rx_first pause n x

-- a round, and the pause of a tick
abbrev pub asked_in : ℕ → Option ℕ → Option Heard → Option Heard
asked_in time None numbers = numbers
asked_in time (Some wait) None = None
asked_in time (Some wait) (Some h) = Some (round h time wait)

abbrev pub paused_in : ℕ → Option ℕ → Option ℕ
paused_in time None = None
paused_in time (Some at) = if nat_le at time then None else Some at

abbrev pub rx_ticked : ℕ → Option ℕ → RxRecord → RxRecord
rx_ticked time asks x = record x { numbers = asked_in time asks x.numbers; pause_at = paused_in time x.pause_at }

abbrev pub is_pending_in : Option Heard → Bool
is_pending_in None = false
is_pending_in (Some h) = is_pending h

-- the stream takes part in a round
abbrev pub is_enabled : Incoming → RxRecord → Bool
is_enabled L x = not L.suppressed && (is_some x.pause_at || is_pending_in x.numbers)

-- an event that does not concern the stream
abbrev pub IsAside : Incoming → Event → Type 0
IsAside L (opened ssrc n p) = concerns L ssrc ≡ false
IsAside L (yielded packet) = (packet.ssrc == L.ssrc) ≡ false
IsAside L (ticked time) = ⊥
IsAside L _ = Unit {0}

abbrev pub AreAside : Incoming → List Event → Type 0
AreAside L [] = Unit {0}
AreAside L (e ∷ events) = IsAside L e × AreAside L events

-- how a step of a side changes the record of one of its incoming streams
pub data RxStep (T : Types) (L : Incoming) (peer : Sealing) (threshold : ℕ) (x : RxRecord) : RxRecord → List Event → Type 0 where
  opens : (time : ℕ) (bytes : List ℕ) (ssrc n : ℕ) (p : Plain) → Opens T L peer (lists_in x) bytes ssrc n p
      → RxStep T L peer threshold x (rx_opened T L (time + threshold) ssrc n p x) (got time Rtp bytes ∷ opened ssrc n p ∷ map yielded (yields T L (lists_in x) ssrc n p))
  ticks : (time : ℕ) (asks : Option ℕ) (new : List Event) → list_all is_sealing new ≡ true → RxStep T L peer threshold x (rx_ticked time asks x) (ticked time ∷ new)
  passes : (new : List Event) → AreAside L new → RxStep T L peer threshold x x new

pub data RxPlays (T : Types) (L : Incoming) (peer : Sealing) (threshold : ℕ) : RxRecord → List Event → Type 0 where
  begun : RxPlays T L peer threshold new_rx []
  step : {x y : RxRecord} {events new : List Event} → RxPlays T L peer threshold x events → RxStep T L peer threshold x y new → RxPlays T L peer threshold y (events ++ new)
