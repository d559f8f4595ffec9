-- The names of sources (RFC 3550 section 6.5.1).
use Rattle.std.specs.Prelude.{ℕ, Bool, true, false, position, slice_get, List, [], ◌∷◌, Option, Some, None, option_and_then}
use Rattle.std.specs.Option.{option_map}
use Rattle.rtcp_items.specs.declared.source.Sdes.{Sdes}
use Rattle.rtcp_items.specs.declared.source.SdesItem.{SdesItem}
use Rattle.rtcp_items.specs.declared.source.SdesType.{SdesType}
use Rattle.rtcp_items.specs.declared.source.SdesType.TheVariants.{CNAME}
use Rattle.stream_core.specs.RxRecord.{RxState}

abbrev pub is_kind_of_name : SdesType → Bool
is_kind_of_name CNAME = true
is_kind_of_name _ = false

abbrev pub is_name : SdesItem → Bool
is_name item = is_kind_of_name item.kind

-- the first name that a description tells
abbrev pub name_in : List SdesItem → Option (List ℕ)
name_in items = option_map (λ item. item.text) (option_and_then (slice_get items) (position is_name items))

-- the name that is known after one was told, or none: an empty one tells nothing
abbrev pub name_after : Option (List ℕ) → Option (List ℕ) → Option (List ℕ)
name_after None before = before
name_after (Some []) before = before
name_after (Some (b ∷ bs)) before = Some (b ∷ bs)

-- an incoming stream after its source described itself
abbrev pub described_by : Sdes → RxState → RxState
described_by d s = record s { cname = name_after (name_in d.values) s.cname }
