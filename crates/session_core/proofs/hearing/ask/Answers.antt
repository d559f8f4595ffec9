use Rattle.std.proofs.Common.{refl, subst}
use Rattle.stream_core.specs.StreamsRecord.{Asked}
use Rattle.session_core.specs.Hearing.{by_nack, by_none}
use Rattle.session_core.proofs.hearing.ask.Goals as goal

pub returns-in_ok-handle_nack-clause-ok : goal.returns-in_ok-handle_nack-clause-ok
returns-in_ok-handle_nack-clause-ok g c = λ r h.
    let k = c.in_ok-handle_nack.ensures.ok r h in
    (k.0, by_nack c.in-Nack.ssrc c.in-Nack.entries k.0 c.in-Nack.is (subst (λ l. Asked c.args.now c.in-Nack.ssrc l r.repairs k.0) c.as_slice.ensures.value k.1), k.2)

pub returns-in_default : goal.returns-in_default
returns-in_default g c = record {
  ok = λ r h. (r.repairs, by_none c.in_default.not-Nack, h);
  others = refl;
  err = tt;
}
