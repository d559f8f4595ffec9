-- What a reordering buffer stands for: what was pushed and given so far.
use Rattle.std.specs.Prelude.{◌≡◌, ℕ, ◌+◌, ◌<◌, ◌≤◌, ◌==◌, Bool, true, false, ◌||◌, if◌then◌else◌, Option, Some, None, MatchOption, Result, List, [], ◌∷◌}
use Rattle.std.specs.Ordering.{nat_cmp}
use Rattle.std.specs.Map.{lookup}
use Rattle.std.specs.BTreeMap.{is_at}
use Rattle.std.specs.List.{list_any}
use Rattle.std.specs.Option.{option_or, option_map_or}
use Rattle.payload_core.specs.declared.buffer.Arrival.{Arrival}
use Rattle.payload_core.specs.declared.buffer.Depacketized.{Depacketized}
use Rattle.payload_core.specs.declared.error.PacketError.{PacketError}
use Rattle.payload_core.specs.Buffer.{is_next}
use Rattle.payload_core.specs.Reordering.{is_passed, front, is_late, turn_of, frame_of}
use Rattle.payload_core.specs.Waiting.{Waiting}

-- a packet was pushed, a padding number was pushed, or the packet of a number was given
pub data Event (I : Type 0) : Type 0 where
  pushed : Arrival I → Event I
  padded : ℕ → Event I
  given : ℕ → Event I

-- what an event pushes under a number: nothing, or a packet, or that it is a padding number (no packet)
abbrev pub push_under : {I : Type 0} → ℕ → Event I → Option (Option (Arrival I))
push_under n (pushed a) = if a.meta.seq_no == n then Some (Some a) else None
push_under n (padded m) = if m == n then Some None else None
push_under n (given m) = None

-- what was pushed first under a number: a later push of it is dropped
abbrev pub first_push : {I : Type 0} → ℕ → List (Event I) → Option (Option (Arrival I))
first_push n [] = None
first_push n (e ∷ later) = option_or (push_under n e) (first_push n later)

abbrev pub packet_of : {I : Type 0} → Option (Option (Arrival I)) → Option (Arrival I)
packet_of None = None
packet_of (Some a) = a

abbrev pub is_padding : {I : Type 0} → Option (Option (Arrival I)) → Bool
is_padding None = false
is_padding (Some None) = true
is_padding (Some (Some a)) = false

abbrev pub number_given : {I : Type 0} → Event I → Option ℕ
number_given (pushed a) = None
number_given (padded m) = None
number_given (given m) = Some m

-- the number of the packet that was given last
abbrev pub last_given : {I : Type 0} → List (Event I) → Option ℕ
last_given [] = None
last_given (e ∷ later) = option_or (last_given later) (number_given e)

-- the last number that counts as given: that of the packet given last, or of the padding numbers that
-- follow it without a gap
pub record IsPassedUpTo {I : Type 0} (events : List (Event I)) (last : ℕ) : Type 0 where
  pub packet : ℕ
  pub was_given : last_given events ≡ Some packet
  pub follows : packet ≤ last
  pub paddings : (n : ℕ) → packet < n → n ≤ last → is_padding (first_push n events) ≡ true
  pub ends : is_padding (first_push (last + 1) events) ≡ false

-- the last number that counts as given, or none before the first packet was given
abbrev pub IsLast : {I : Type 0} → List (Event I) → Option ℕ → Type 0
IsLast events None = last_given events ≡ None
IsLast events (Some last) = IsPassedUpTo events last

-- the packet that waits under a number: the one pushed first under it, where the number was not passed
abbrev pub waiting_under : {I : Type 0} → List (Event I) → Option ℕ → ℕ → Option (Arrival I)
waiting_under events last n = if is_passed last n then None else packet_of (first_push n events)

-- a padding number that was not passed
abbrev pub is_kept : {I : Type 0} → List (Event I) → Option ℕ → ℕ → Bool
is_kept events last n = if is_passed last n then false else is_padding (first_push n events)

-- the numbers rise, from this one on
abbrev pub Rise : {X : Type 0} → ℕ → List (ℕ × X) → Type 0
Rise from [] = Unit {0}
Rise from (e ∷ later) = (from ≤ e.0) × Rise (e.0 + 1) later

abbrev pub NumbersRise : ℕ → List ℕ → Type 0
NumbersRise from [] = Unit {0}
NumbersRise from (n ∷ later) = (from ≤ n) × NumbersRise (n + 1) later

-- The buffer is what these events left: its last number is the last that counts as given, and it has, in
-- order, exactly the packets and the padding numbers that wait.
pub record StandsFor {I : Type 0} (b : Waiting I) (events : List (Event I)) : Type 0 where
  pub last : IsLast events b.last
  pub packets : (n : ℕ) → lookup (is_at (nat_cmp n)) b.packets ≡ waiting_under events b.last n
  pub in_order : Rise 0 b.packets
  pub paddings : (n : ℕ) → list_any (is_at (nat_cmp n)) b.paddings ≡ is_kept events b.last n
  pub paddings_in_order : NumbersRise 0 b.paddings

-- what a call of pop gives, as an event
abbrev pub given_now : {I : Type 0} → Waiting I → ℕ → Option ℕ → List (Event I)
given_now b now timeout = option_map_or (λ e. option_map_or (λ _. given e.0 ∷ []) (turn_of b now timeout e) []) (front b) []

-- the front: the packet that waits under the lowest number
pub record IsFront {I : Type 0} (events : List (Event I)) (last : Option ℕ) (number : ℕ) (arrival : Arrival I) : Type 0 where
  pub waits : waiting_under events last number ≡ Some arrival
  pub lowest : (n : ℕ) → n < number → waiting_under events last n ≡ None

-- it is the front's turn: nothing is missing before it, or it does not wait for that any longer
abbrev pub is_due : {I : Type 0} → Waiting I → ℕ → Arrival I → ℕ → Option ℕ → Bool
is_due b number arrival now timeout = is_next b.last number || is_late b arrival.meta.received now timeout

-- the front's turn has come, and this is its frame, or why it has none
pub record IsFrontGiven {I : Type 0} (b : Waiting I) (events : List (Event I)) (now : ℕ) (timeout : Option ℕ) (answer : Result (Depacketized I) PacketError) : Type 0 where
  pub number : ℕ
  pub arrival : Arrival I
  pub is_front : IsFront events b.last number arrival
  pub due : is_due b number arrival now timeout ≡ true
  pub frame : answer ≡ frame_of b.depack arrival (is_next b.last number)

-- nothing waits, or it is not the front's turn
abbrev pub NothingIsDue : {I : Type 0} → Waiting I → List (Event I) → ℕ → Option ℕ → Type 0
NothingIsDue {I} b events now timeout = (number : ℕ) (arrival : Arrival I) → IsFront events b.last number arrival → is_due b number arrival now timeout ≡ false

-- the rule of giving, after these events
abbrev pub GivesByRule : {I : Type 0} → Waiting I → List (Event I) → ℕ → Option ℕ → Option (Result (Depacketized I) PacketError) → Type 0
GivesByRule b events now timeout answer = MatchOption answer (NothingIsDue b events now timeout) (λ r. IsFrontGiven b events now timeout r)

-- two buffers hold the same
pub record HoldsTheSame {I : Type 0} (b c : Waiting I) : Type 0 where
  pub last : b.last ≡ c.last
  pub packets : b.packets ≡ c.packets
  pub paddings : b.paddings ≡ c.paddings

-- what was pushed and given determines what a buffer holds
abbrev pub EventsDetermine : (I : Type 0) → Type 0
EventsDetermine I = (b c : Waiting I) (events : List (Event I)) → StandsFor b events → StandsFor c events → HoldsTheSame b c
