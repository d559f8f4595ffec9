-- The streams of a session lend one of them.
use Rattle.std.specs.Prelude.{ℕ}
use Rattle.std.specs.Borrow.{Lends, MutBor, Fml, RattleType}
use Rattle.indexmap.specs.IndexMap.{set_value_at}
use Rattle.repair_core.specs.declared.gap_window.GapWindow.{Ghosts}
use Rattle.resend_core.specs.declared.resend_store.ResendStore.{Ghosts as StoreGhosts}
use Rattle.stream_core.specs.Repairing.{SentPacket}
use Rattle.stream_core.specs.RxRecord.{RxView}
use Rattle.stream_core.specs.StreamsRecord.{StreamsView}
use Rattle.stream_core.specs.TxRecord.{TxRecord}
use Rattle.stream_core.specs.contracts.stream_rx.StreamRx.{the_row as rx_row}
use Rattle.stream_core.specs.contracts.stream_tx.StreamTx.{the_row as tx_row}
use Rattle.stream_core.specs.contracts.streams.Streams.{the_row}

-- the streams end with the last value behind r as the stream at the place among those that send
abbrev pub LendsTx : (W S : RattleType) → Ghosts W.Denot → StoreGhosts S.Denot SentPacket → MutBor (StreamsView W.Denot S.Denot) → ℕ → MutBor TxRecord → Fml
LendsTx W S window store s place r = Lends (the_row W S window store) tx_row s r (λ x. record s.now { tx = set_value_at s.now.tx place x })

-- the same among those that receive
abbrev pub LendsRx : (W S : RattleType) → Ghosts W.Denot → StoreGhosts S.Denot SentPacket → MutBor (StreamsView W.Denot S.Denot) → ℕ → MutBor (RxView W.Denot) → Fml
LendsRx W S window store s place r = Lends (the_row W S window store) (rx_row W window) s r (λ x. record s.now { rx = set_value_at s.now.rx place x })
