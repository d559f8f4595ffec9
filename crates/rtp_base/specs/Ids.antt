-- Numbers of sessions, and which streams and directions match.
use Rattle.std.specs.Prelude.{◌≡◌, ℕ, ◌/◌, ◌⊎◌, nat_lt, Bool, true, false, if◌then◌else◌, None}
use Rattle.rtp_base.specs.declared.ids.MidRid.{MidRid}
use Rattle.rtp_base.specs.declared.ids.Direction.{Direction}
use Rattle.rtp_base.specs.declared.ids.Direction.TheVariants.{SendOnly, RecvOnly, SendRecv, Inactive}
use Rattle.rtp_base.specs.declared.ids.TheConstants.{SESSION_ID_LIMIT}

-- halved while it is above 2 ^ 62 - 1, which for 64 bits is twice at most
abbrev pub halved : ℕ → ℕ
halved n = if nat_lt n SESSION_ID_LIMIT then n else if nat_lt (n / 2) SESSION_ID_LIMIT then n / 2 else n / 4

-- the mids are equal, and the rids are too, or none is asked for
abbrev pub Matches : MidRid → MidRid → Type 0
Matches asked held = (asked.0 ≡ held.0) × ((asked.1 ≡ held.1) ⊎ (asked.1 ≡ None))

abbrev pub sends : Direction → Bool
sends SendOnly = true
sends SendRecv = true
sends RecvOnly = false
sends Inactive = false

abbrev pub receives : Direction → Bool
receives RecvOnly = true
receives SendRecv = true
receives SendOnly = false
receives Inactive = false

abbrev pub turned_round : Direction → Direction
turned_round SendOnly = RecvOnly
turned_round RecvOnly = SendOnly
turned_round SendRecv = SendRecv
turned_round Inactive = Inactive
