-- Extended reports (RFC 3611).
use Rattle.std.specs.Prelude.{ℕ, zero, suc, ◌-◌, ◌/◌, ◌==◌, ◌||◌, List, [], ◌∷◌, ◌++◌, length, take, drop, slice_index, nat_lt, Option, Some, None, if◌then◌else◌}
use Rattle.std.specs.List.{flat_map}
use Rattle.std.specs.Option.{option_map, option_and_then}
use Rattle.std.specs.Int.{w16, w32, w64, to_be_bytes}
use Rattle.media_units.specs.Wallclock.{unix_of_ntp, ntp_of_unix}
use Rattle.rtp_base.specs.Wire.{word_at, double_at, words}
use Rattle.rtcp_wire.specs.Wire.{rows_of}
use Rattle.rtcp_wire.specs.Frame.{item_len}
use Rattle.rtcp_items.specs.declared.extended.DlrrItem.{DlrrItem}
use Rattle.rtcp_items.specs.declared.extended.ReportBlock.{ReportBlock}
use Rattle.rtcp_items.specs.declared.extended.ReportBlock.TheVariants.{Rrtr, Dlrr}
use Rattle.rtcp_items.specs.declared.extended.ExtendedReport.{ExtendedReport}
use Rattle.rtp_base.specs.declared.report_list.TheConstants.{MAX_REPORTS}
use Rattle.rtcp_wire.specs.declared.extended.TheConstants.{RRTR_BLOCK_TYPE, DLRR_BLOCK_TYPE}

-- the SSRC of a receiver, its last RRTR and the delay since then (section 4.5)
unfoldable pub dlrr_item_at : List ℕ → DlrrItem
dlrr_item_at bytes = record { ssrc = word_at bytes 0; last_rr_time = word_at bytes 4; last_rr_delay = word_at bytes 8 }

unfoldable pub dlrr_item_text : DlrrItem → List ℕ
dlrr_item_text i = words (i.ssrc ∷ i.last_rr_time ∷ i.last_rr_delay ∷ [])

-- what the contents of a block say, by its type: 4 is an RRTR, whose first two words are read
-- (section 4.4), 5 a DLRR, of which whole items are read; others are passed over. Nothing where the
-- block is too short
unfoldable pub block_of : ℕ → List ℕ → Option (List ReportBlock)
block_of kind content =
    if kind == RRTR_BLOCK_TYPE then (if nat_lt (length content) 8 then None else Some (Rrtr (record { ntp_time = unix_of_ntp (double_at content 0) }) ∷ []))
    else (if kind == DLRR_BLOCK_TYPE then Some (Dlrr (record { items = rows_of dlrr_item_at 12 (length content / 12) content }) ∷ [])
    else Some [])

-- the block at the front, and what follows it: type, a byte for the type's own use, the length in
-- words less one (section 3). Nothing where it runs past the end or is too short
unfoldable pub block_at : List ℕ → Option (List ReportBlock × List ℕ)
block_at bytes =
    if nat_lt (length bytes) 4 || nat_lt (length bytes) (item_len bytes) then None
    else option_map (λ blocks. (blocks, drop (item_len bytes) bytes)) (block_of (slice_index bytes 0) (drop 4 (take (item_len bytes) bytes)))

-- what was read behind blocks that stood before it
abbrev pub with_blocks : List ReportBlock → List ReportBlock × List ℕ → List ReportBlock × List ℕ
with_blocks front x = (front ++ x.0, x.1)

abbrev pub kept : List ReportBlock → List ℕ → List ReportBlock × List ℕ
kept blocks rest = (blocks, rest)

-- of the n blocks at the front the first of known types, as many as there is room for; what stands behind
-- the last of these is not looked at
abbrev pub blocks_within : ℕ → ℕ → List ℕ → Option (List ReportBlock)
blocks_within zero room bytes = Some []
blocks_within (suc n) zero bytes = Some []
blocks_within (suc n) (suc room) [] = Some []
blocks_within (suc n) (suc room) (b ∷ bytes) =
    option_and_then (λ x. option_map (λ later. x.0 ++ later) (blocks_within n (suc room - length x.0) x.1)) (block_at (b ∷ bytes))

-- the first 31 blocks of known types; each block takes a word at least
unfoldable pub blocks_of : List ℕ → Option (List ReportBlock)
blocks_of bytes = blocks_within (length bytes) MAX_REPORTS bytes

-- type 207: the SSRC of the sender, and blocks, of which the first 31 of known types are read
unfoldable pub extended_report_of : List ℕ → Option ExtendedReport
extended_report_of body =
    if nat_lt (length body) 4 then None
    else option_map (λ blocks. record { ssrc = word_at body 0; blocks = blocks }) (blocks_of (drop 4 body))

abbrev pub block_kind : ReportBlock → ℕ
block_kind (Rrtr r) = RRTR_BLOCK_TYPE
block_kind (Dlrr d) = DLRR_BLOCK_TYPE

unfoldable pub block_content : ReportBlock → List ℕ
block_content (Rrtr r) = to_be_bytes w64 (ntp_of_unix r.ntp_time)
block_content (Dlrr d) = flat_map dlrr_item_text d.items

unfoldable pub block_text : ReportBlock → List ℕ
block_text b = block_kind b ∷ 0 ∷ to_be_bytes w16 (length (block_content b) / 4) ++ block_content b

unfoldable pub extended_report_body : ExtendedReport → List ℕ
extended_report_body r = to_be_bytes w32 r.ssrc ++ flat_map block_text r.blocks
