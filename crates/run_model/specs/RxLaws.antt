-- What holds of an incoming stream over a whole run.
use Rattle.std.specs.Prelude.{◌≡◌, ℕ, map, List}
use Rattle.run_model.specs.Events.{Event, Types, Incoming}
use Rattle.run_model.specs.Listing.{NoRepeat}
use Rattle.run_model.specs.Seals.{Sealing}
use Rattle.run_model.specs.Receiving.{lists, packets_on}
use Rattle.run_model.specs.RxPlay.{RxRecord, lists_in, RxPlays}

-- the record of a stream holds the lists that are read off the events
abbrev pub RecordsHoldLists : Type 0
RecordsHoldLists =
    (T : Types) (L : Incoming) (peer : Sealing) (threshold : ℕ) (x : RxRecord) (events : List Event) → RxPlays T L peer threshold x events → lists T L events ≡ lists_in x

-- no number is yielded twice
abbrev pub NoneTwice : Type 0
NoneTwice =
    (T : Types) (L : Incoming) (peer : Sealing) (threshold : ℕ) (x : RxRecord) (events : List Event) → RxPlays T L peer threshold x events
    → NoRepeat (map (λ packet. packet.number) (packets_on L events))
