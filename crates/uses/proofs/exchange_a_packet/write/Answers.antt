use Rattle.stream_core.specs.TxRecord.{written}
use Rattle.uses.proofs.Ending.{changed_first}
use Rattle.uses.proofs.exchange_a_packet.write.Goals as goal

-- the stream at the first place has the packet behind those that wait
pub returns-in-Ok-clause-ok : goal.returns-in-Ok-clause-ok
returns-in-Ok-clause-ok c =
    changed_first c.args.end.now c.streams.result.now (written c.args.packet) c.tx_at.result.now c.write_rtp.new.self
    c.streams.ensures.rx c.streams.ensures.tx c.streams.ensures.threshold c.streams.ensures.known c.streams.ensures.repairs c.tx_at.ensures.value c.in-Ok.ensures.ok
