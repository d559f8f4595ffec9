-- How much went over a stream. A count that a u64 cannot hold is the greatest u64.
use Rattle.std.specs.Prelude.{ℕ, ◌+◌, ◌-◌, ◌^◌, min}
use Rattle.report_core.specs.declared.traffic.Traffic.{Traffic}

-- a sum of counts
abbrev pub more : ℕ → ℕ → ℕ
more one other = min (one + other) (2 ^ 64 - 1)

abbrev pub no_traffic : Traffic
no_traffic = record { packets = 0; bytes = 0 }

-- and a packet with so many bytes of payload
abbrev pub with_packet : ℕ → Traffic → Traffic
with_packet bytes t = record { packets = more t.packets 1; bytes = more t.bytes bytes }

-- what two streams had
abbrev pub joined : Traffic → Traffic → Traffic
joined one other = record { packets = more one.packets other.packets; bytes = more one.bytes other.bytes }
