use Rattle.std.proofs.Common.{refl, sym, ap, ◌∙◌}
use Rattle.std.specs.Option.{option_copied}
use Rattle.media_model.specs.declared.genuine.Seal.{Seal}
use Rattle.media_model.proofs.Seals.{looked_up}
use Rattle.media_model.proofs.genuine.is_sealed.Goals as goal

pub returns : goal.returns
returns c before has last =
    let o = c.in-Opened.opened in
    let q : Seal = record { side = c.peer.result; kind = o.kind; ssrc = c.from.result; index = c.from-2.result; bytes = c.in-Some.bytes } in
    c.contains.ensures
    ∙ looked_up c.args.sealed.now c.args.latest.now before c.args.entry.now o c.in-Some.bytes.now q c.in-Opened.is (sym c.of.ensures ∙ ap option_copied c.in-Some.is)
    c.peer.ensures refl c.from.ensures c.from-2.ensures refl has last
