-- Sources that describe themselves (RFC 3550 section 6.5).
use Rattle.std.specs.Prelude.{ℕ, zero, suc, ◌+◌, ◌-◌, ◌%◌, ◌==◌, ◌||◌, List, [], ◌∷◌, ◌++◌, length, take, drop, slice_index, nat_lt, Option, Some, None, if◌then◌else◌}
use Rattle.std.specs.List.{flat_map}
use Rattle.std.specs.Option.{option_map, option_and_then}
use Rattle.std.specs.Int.{w32, to_be_bytes}
use Rattle.rtp_base.specs.Wire.{word_at}
use Rattle.rtcp_items.specs.SdesTypes.{sdes_type_of, sdes_number}
use Rattle.rtcp_items.specs.declared.source.SdesItem.{SdesItem}
use Rattle.rtcp_items.specs.declared.source.Sdes.{Sdes}
use Rattle.rtcp_items.specs.declared.source.Descriptions.{Descriptions}
use Rattle.rtp_base.specs.declared.report_list.TheConstants.{MAX_REPORTS}

-- the item at the front of a list, and what follows it: its type, the length of its text in bytes, and
-- the text. Nothing where the bytes are too short
unfoldable pub sdes_item_at : List ℕ → Option (SdesItem × List ℕ)
sdes_item_at bytes =
    if nat_lt (length bytes) 2 || nat_lt (length bytes) (2 + slice_index bytes 1) then None
    else Some (record { kind = sdes_type_of (slice_index bytes 0); text = drop 2 (take (2 + slice_index bytes 1) bytes) }, drop (2 + slice_index bytes 1) bytes)

-- what was read behind items that stood before it
abbrev pub with_items : List SdesItem → Option (List SdesItem × List ℕ) → Option (List SdesItem × List ℕ)
with_items front o = option_map (λ x. (front ++ x.0, x.1)) o

-- the items before the zero that ends their list, and the bytes from that zero on; nothing where an item
-- is too short or no zero comes
abbrev pub sdes_items_within : ℕ → List ℕ → Option (List SdesItem × List ℕ)
sdes_items_within zero bytes = None
sdes_items_within (suc n) [] = None
sdes_items_within (suc n) (b ∷ bytes) =
    if b == 0 then Some ([], b ∷ bytes)
    else option_and_then (λ x. with_items (x.0 ∷ []) (sdes_items_within n x.1)) (sdes_item_at (b ∷ bytes))

abbrev pub sdes_items_of : List ℕ → Option (List SdesItem × List ℕ)
sdes_items_of bytes = sdes_items_within (length bytes) bytes

-- of the items of a list the first 31 are read
abbrev pub first_31 : Option (List SdesItem × List ℕ) → Option (List SdesItem × List ℕ)
first_31 o = option_map (λ x. (take MAX_REPORTS x.0, x.1)) o

abbrev pub with_item : List SdesItem → SdesItem → List SdesItem
with_item items item = if nat_lt (length items) MAX_REPORTS then items ++ item ∷ [] else items

-- the zero that ends the list of a chunk, at so many bytes from its start, is followed by zeros to a whole
-- word
abbrev pub sdes_ended : ℕ → ℕ → List SdesItem × List ℕ → Option (Sdes × List ℕ)
sdes_ended ssrc at x =
    if nat_lt (length x.1) (4 - at % 4) then None
    else Some (record { ssrc = ssrc; values = x.0 }, drop (4 - at % 4) x.1)

-- the chunk at the front, and what follows it: an SSRC, and a list of items, of which the first 31 are
-- read; a zero ends the list, and the chunk goes on to a whole word
unfoldable pub sdes_at : List ℕ → Option (Sdes × List ℕ)
sdes_at bytes =
    if nat_lt (length bytes) 4 then None
    else option_and_then (λ x. sdes_ended (word_at bytes 0) (length bytes - length x.1) x) (first_31 (sdes_items_of (drop 4 bytes)))

-- n chunks, one after another
abbrev pub chunks_of : ℕ → List ℕ → Option (List Sdes)
chunks_of zero bytes = Some []
chunks_of (suc n) bytes = option_and_then (λ x. option_map (λ later. x.0 ∷ later) (chunks_of n x.1)) (sdes_at bytes)

-- type 202: as many chunks as the count says
unfoldable pub descriptions_of : ℕ → List ℕ → Option Descriptions
descriptions_of count body = option_map (λ chunks. record { reports = chunks }) (chunks_of count body)

unfoldable pub sdes_item_text : SdesItem → List ℕ
sdes_item_text i = sdes_number i.kind ∷ length i.text % 256 ∷ i.text

-- a zero, and more of them to a whole word
abbrev pub ended : List ℕ → List ℕ
ended text = text ++ take (4 - length text % 4) (0 ∷ 0 ∷ 0 ∷ 0 ∷ [])

unfoldable pub sdes_text : Sdes → List ℕ
sdes_text s = ended (to_be_bytes w32 s.ssrc ++ flat_map sdes_item_text s.values)

unfoldable pub descriptions_body : Descriptions → List ℕ
descriptions_body d = flat_map sdes_text d.reports
