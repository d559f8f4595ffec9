use Rattle.std.proofs.Common.{refl}
use Rattle.media_model.specs.declared.genuine.Seal.{Seal}
use Rattle.media_model.proofs.Seals.{seal_more}
use Rattle.media_model.proofs.genuine.add_seal.Goals as goal

pub returns-in_ok-insert : goal.returns-in_ok-insert
returns-in_ok-insert c before has =
    let s = c.in-Sealed.seal in
    let a : Seal = record { side = s.side; kind = s.kind; ssrc = c.from.result; index = c.from-in-Sealed.result; bytes = c.as_slice.result } in
    seal_more c.args.sealed.now c.insert.new.self before c.args.entry.now s a c.in-Sealed.is refl refl c.from.ensures c.from-in-Sealed.ensures c.as_slice.ensures
    c.in_ok-insert.ensures.updates.0 has
