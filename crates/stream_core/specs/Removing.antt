-- The streams without those of a media section.
use Rattle.std.specs.Prelude.{ℕ, ◌==◌, ◌&&◌, not, Bool, List}
use Rattle.std.specs.List.{filter, list_any}
use Rattle.std.specs.Cmp.Lexicographic.{pointwise}
use Rattle.mapping_core.specs.Streams.{without_section as known_without}
use Rattle.mapping_core.specs.declared.stream.IncomingStream.{IncomingStream}
use Rattle.stream_core.specs.Known.{KnownRecord}
use Rattle.stream_core.specs.RxRecord.{RxRecord}
use Rattle.stream_core.specs.StreamsRecord.{StreamsRecord}
use Rattle.stream_core.specs.TxRecord.{TxRecord}

-- a stream is of another media section
abbrev pub is_of_other : List ℕ → List ℕ → Bool
is_of_other mid own = not (pointwise ◌==◌ own mid)

-- the streams that send without those of the section
abbrev pub sent_without : List ℕ → List (ℕ × TxRecord) → List (ℕ × TxRecord)
sent_without mid tx = filter (λ e. is_of_other mid e.1.mid) tx

-- those that receive
abbrev pub received_without : List ℕ → List (ℕ × RxRecord) → List (ℕ × RxRecord)
received_without mid rx = filter (λ e. is_of_other mid e.1.state.mid) rx

-- a stream of the section sends under an SSRC, or receives under it
abbrev pub sends_for : List ℕ → ℕ → List (ℕ × TxRecord) → Bool
sends_for mid ssrc tx = list_any (λ e. e.0 == ssrc && pointwise ◌==◌ e.1.mid mid) tx

abbrev pub receives_for : List ℕ → ℕ → List IncomingStream → Bool
receives_for mid ssrc streams = list_any (λ s. s.ssrc == ssrc && pointwise ◌==◌ s.mid mid) streams

-- what is known without the streams of the section, and without the SSRCs of their repairs
abbrev pub known_without_section : List ℕ → KnownRecord → KnownRecord
known_without_section mid k = record {
  originals = filter (λ e. not (receives_for mid e.1 k.streams)) k.originals;
  streams = known_without mid k.streams;
}

-- what stands under the SSRCs of other streams
abbrev pub kept_without : {X : Type 0} → List ℕ → List (ℕ × TxRecord) → List (ℕ × X) → List (ℕ × X)
kept_without mid tx es = filter (λ e. not (sends_for mid e.0 tx)) es

abbrev pub without_section : List ℕ → StreamsRecord → StreamsRecord
without_section mid r = record {
  threshold = r.threshold;
  rx = received_without mid r.rx;
  known = known_without_section mid r.known;
  tx = sent_without mid r.tx;
  repairs = kept_without mid r.tx r.repairs;
}
