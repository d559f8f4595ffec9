-- The greatest rate that a receiver asks for (draft-alvestrand-rmcat-remb section 2.2).
use Rattle.std.specs.Prelude.{ℕ, Bool, ◌+◌, ◌-◌, ◌*◌, ◌/◌, ◌%◌, ◌^◌, ◌==◌, ◌&&◌, ◌||◌, min, List, [], ◌∷◌, ◌++◌, length, drop, nat_lt, nat_le, Option, Some, None, if◌then◌else◌}
use Rattle.std.specs.Int.{w64, leading_zeros}
use Rattle.rtp_base.specs.Wire.{word_at, words}
use Rattle.rtcp_wire.specs.Wire.{rows_of}
use Rattle.rtcp_wire.specs.declared.remb.Remb.{Remb}
use Rattle.rtcp_wire.specs.declared.remb.TheConstants.{REMB_IDENTIFIER, MANTISSA_BITS, MANTISSA_LIMIT}
use Rattle.media_units.specs.declared.rate.TheConstants.{GREATEST_RATE}

-- a rate is mantissa * 2 ^ exponent, the mantissa below 2 ^ 18: the exponent is how many more bits than
-- 18 the rate has
abbrev pub exponent_of : ℕ → ℕ
exponent_of rate = 64 - leading_zeros w64 rate - MANTISSA_BITS

abbrev pub mantissa_of : ℕ → ℕ
mantissa_of rate = rate / 2 ^ exponent_of rate

-- 'REMB'
abbrev pub remb_name : ℕ
remb_name = REMB_IDENTIFIER

-- application feedback whose words begin with the name
abbrev pub is_remb : List ℕ → Bool
is_remb body = nat_le 12 (length body) && (word_at body 8 == remb_name)

-- type 206, format 15: the SSRC of the sender, 0, the name, the number of SSRCs, the exponent, the
-- mantissa, the SSRCs
unfoldable pub remb_of : List ℕ → Option Remb
remb_of body =
    if nat_lt (length body) 16 || nat_lt (length body) (16 + word_at body 12 / 16777216 * 4) then None
    else Some (record {
      sender_ssrc = word_at body 0;
      bitrate = min (word_at body 12 % MANTISSA_LIMIT * 2 ^ (word_at body 12 / MANTISSA_LIMIT % 64)) GREATEST_RATE;
      ssrcs = rows_of (λ bytes. word_at bytes 0) 4 (word_at body 12 / 16777216) (drop 16 body);
    })

unfoldable pub remb_body : Remb → List ℕ
remb_body r =
    words (r.sender_ssrc ∷ 0 ∷ remb_name ∷ (length r.ssrcs * 16777216 + exponent_of r.bitrate * MANTISSA_LIMIT + mantissa_of r.bitrate) ∷ []) ++ words r.ssrcs
