-- Which SSRCs the streams of a session have.
use Rattle.std.specs.Prelude.{ℕ, Bool, ◌==◌, ◌||◌, is_some, List, Option}
use Rattle.std.specs.List.{list_any}
use Rattle.mapping_core.specs.Claims.{is_number}
use Rattle.stream_core.specs.RxRecord.{RxView, RxRecord}
use Rattle.stream_core.specs.StreamsRecord.{StreamsView, StreamsRecord}
use Rattle.stream_core.specs.Tables.{place_of}
use Rattle.stream_core.specs.TxRecord.{TxRecord}

-- an SSRC is that of a stream's packets, or that of its repairs
abbrev pub is_of : (ssrc own : ℕ) → (rtx : Option ℕ) → Bool
is_of ssrc own rtx = own == ssrc || is_number rtx ssrc

-- it is of some stream that is received, or one stands under it
abbrev pub is_received : {W : Type 0} → ℕ → List (ℕ × RxView W) → Bool
is_received {W} ssrc es = list_any (λ (e : ℕ × RxView W). is_of ssrc e.1.state.ssrc e.1.state.rtx) es || is_some (place_of ssrc es)

abbrev pub is_received_by : ℕ → List (ℕ × RxRecord) → Bool
is_received_by ssrc es = list_any (λ (e : ℕ × RxRecord). is_of ssrc e.1.state.ssrc e.1.state.rtx) es || is_some (place_of ssrc es)

-- it is of some stream that is sent, or one stands under it
abbrev pub is_sent : ℕ → List (ℕ × TxRecord) → Bool
is_sent ssrc es = list_any (λ (e : ℕ × TxRecord). is_of ssrc e.1.ssrc e.1.rtx) es || is_some (place_of ssrc es)

-- it is in use, of the streams as their callers see them and of their record
abbrev pub is_used : {W S : Type 0} → StreamsView W S → ℕ → Bool
is_used s ssrc = is_received ssrc s.rx || is_sent ssrc s.tx

abbrev pub is_in_use : StreamsRecord → ℕ → Bool
is_in_use r ssrc = is_received_by ssrc r.rx || is_sent ssrc r.tx
