-- What a queue knows of its packets without going over them.
use Rattle.std.specs.Prelude.{◌≡◌, ℕ, ◌==◌, ◌<◌, ◌≤◌, ◌^◌, nat_le, Bool, true, ◌&&◌, ◌||◌, Option, None, List, [], ◌∷◌, length, IfSome}
use Rattle.std.specs.List.{AllByRecursion, sum}
use Rattle.stream_core.specs.declared.packet.RtpPacket.{RtpPacket}
use Rattle.stream_core.specs.declared.stream_tx.TheConstants.{MAX_PAYLOAD_LEN}
use Rattle.stream_core.specs.Queue.{are_stamped, stamped, stamps_of, payload_bytes}

-- moments that never fall, and none of which is above m
abbrev pub RiseTo : ℕ → List ℕ → Type 0
RiseTo m [] = Unit {0}
RiseTo m (t ∷ ts) = (t ≤ m) × AllByRecursion (λ u. t ≤ u) ts × RiseTo m ts

-- the stamp of the first packet, if there is one that has a stamp
abbrev pub first_stamp : List RtpPacket → Option ℕ
first_stamp [] = None
first_stamp (p ∷ ps) = p.timestamp

-- a packet of which sums are kept: it has at most 1,400 bytes of payload, and its stamp is a number of 64 bits
abbrev pub IsSummable : RtpPacket → Type 0
IsSummable p = (length p.payload ≤ MAX_PAYLOAD_LEN) × IfSome p.timestamp (λ t. t < 2 ^ 64)

-- of these packets the first so many have a stamp; these have so many bytes of payload, and so great is the sum of their
-- stamps. If they are said to rise they do, up to a moment
pub record Totals (ps : List RtpPacket) (count bytes stamps last_tick : ℕ) (rising : Bool) : Type 0 where
  pub in_front : are_stamped count ps ≡ true
  pub all_bytes : bytes ≡ payload_bytes (stamped ps)
  pub all_stamps : stamps ≡ sum (stamps_of ps)
  pub rise : rising ≡ true → RiseTo last_tick (stamps_of ps)
  pub summable : AllByRecursion IsSummable ps

-- whether they rise up to now once others are stamped then: where none was stamped before, or else where they rose, up to
-- a moment that is not later
abbrev pub goes_on : ℕ → ℕ → ℕ → Bool → Bool
goes_on count last_tick now rising = (count == 0) || (rising && nat_le last_tick now)
