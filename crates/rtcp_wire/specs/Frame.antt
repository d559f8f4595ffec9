-- The header that each item begins with (RFC 3550 section 6.4.1).
use Rattle.std.specs.Prelude.{ℕ, ◌+◌, ◌-◌, ◌*◌, ◌/◌, ◌%◌, ◌==◌, ◌||◌, ◌&&◌, not, nat_lt, nat_le, List, length, take, drop, slice_index, Option, Some, None, if◌then◌else◌}
use Rattle.rtp_base.specs.Wire.{half_at}
use Rattle.rtp_base.specs.declared.kind.TheConstants.{RTP_VERSION}
use Rattle.rtcp_wire.specs.declared.frame.Frame.{Frame as Found}

-- an item: its count or format, its type, the bytes after its header, and what follows it
pub record Frame : Type 0 where
  pub count : ℕ
  pub kind : ℕ
  pub body : List ℕ
  pub rest : List ℕ

-- a frame without where it lies in memory
abbrev pub view : Found → Frame
view f = record { count = f.count; kind = f.kind; body = f.body.now; rest = f.rest.now }

-- the length of the item at the front in bytes: the header has it in words, less one
abbrev pub item_len : List ℕ → ℕ
item_len bytes = 4 * half_at bytes 2 + 4

-- the bytes without padding, whose last byte counts it, itself included; a count that is 0 or above
-- the bytes there is none
abbrev pub unpadded : List ℕ → List ℕ
unpadded body =
    if nat_lt 0 (slice_index body (length body - 1)) && nat_le (slice_index body (length body - 1)) (length body)
    then take (length body - slice_index body (length body - 1)) body else body

-- the item at the front, unless its version is not 2 or its length runs past the end
abbrev pub frame_at : List ℕ → Option Frame
frame_at bytes =
    if nat_lt (length bytes) 4 || (not (slice_index bytes 0 / 64 == RTP_VERSION) || nat_lt (length bytes) (item_len bytes)) then None
    else Some (record {
      count = slice_index bytes 0 % 32;
      kind = slice_index bytes 1;
      body = if slice_index bytes 0 / 32 % 2 == 1 then unpadded (drop 4 (take (item_len bytes) bytes)) else drop 4 (take (item_len bytes) bytes);
      rest = drop (item_len bytes) bytes;
    })
