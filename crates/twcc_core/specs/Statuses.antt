-- What feedback says of a packet, its symbol and its delta
-- (draft-holmer-rmcat-transport-wide-cc-extensions-01 sections 3.1.1 and 3.1.5).
use Rattle.std.specs.Prelude.{ℕ, ℤ, pos, negsuc, ◌==◌, Bool, false, List, [], ◌∷◌, length, drop, slice_index, nat_lt, Option, Some, None, if◌then◌else◌}
use Rattle.std.specs.Int.{w16, to_be_bytes, cast_signed, cast_unsigned}
use Rattle.std.specs.Option.{option_map, option_and_then}
use Rattle.rtp_base.specs.Wire.{half_at}
use Rattle.twcc_core.specs.declared.status.PacketStatus.{PacketStatus}
use Rattle.twcc_core.specs.declared.status.PacketStatus.TheVariants.{NotReceived, Received}
use Rattle.twcc_core.specs.declared.status.TheConstants.{NOT_RECEIVED_SYMBOL, SMALL_DELTA_SYMBOL, LARGE_DELTA_SYMBOL}

-- whether a delta fits 8 bits without sign
abbrev pub is_small : ℤ → Bool
is_small (pos n) = nat_lt n 256
is_small (negsuc n) = false

-- the symbol of two bits: not received, received with a delta of 8 bits, received with one of 16 bits
abbrev pub symbol_of : PacketStatus → ℕ
symbol_of NotReceived = NOT_RECEIVED_SYMBOL
symbol_of (Received delta) = if is_small delta then SMALL_DELTA_SYMBOL else LARGE_DELTA_SYMBOL

-- the bytes of the delta, where there is one
abbrev pub delta_text : PacketStatus → List ℕ
delta_text NotReceived = []
delta_text (Received delta) = if is_small delta then cast_unsigned w16 delta ∷ [] else to_be_bytes w16 (cast_unsigned w16 delta)

-- what a symbol and the bytes from its delta on say, and what follows them. Symbol 3 is reserved and
-- says no arrival. Nothing where the bytes end before the delta
unfoldable pub status_at : ℕ → List ℕ → Option (PacketStatus × List ℕ)
status_at symbol bytes =
    if symbol == SMALL_DELTA_SYMBOL then (if nat_lt (length bytes) 1 then None else Some (Received (pos (slice_index bytes 0)), drop 1 bytes))
    else (if symbol == LARGE_DELTA_SYMBOL then (if nat_lt (length bytes) 2 then None else Some (Received (cast_signed w16 (half_at bytes 0)), drop 2 bytes))
    else Some (NotReceived, bytes))

-- what symbols say, with the deltas one after another
abbrev pub statuses_of : List ℕ → List ℕ → Option (List PacketStatus)
statuses_of [] bytes = Some []
statuses_of (symbol ∷ symbols) bytes = option_and_then (λ x. option_map (λ later. x.0 ∷ later) (statuses_of symbols x.1)) (status_at symbol bytes)
