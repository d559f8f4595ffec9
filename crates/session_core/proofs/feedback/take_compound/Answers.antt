use Rattle.std.proofs.Common.{◌≡◌, ◌<◌, ℕ, length, drop, sym, ap, subst, ◌∙◌}
use Rattle.rtcp_wire.specs.Texts.{fitting}
use Rattle.session_core.specs.Feedback.{room_of, items_after}
use Rattle.session_core.proofs.Compounds.{fewer_behind}
use Rattle.session_core.proofs.feedback.take_compound.Goals as goal

pub returns-clause-fewer : goal.returns-clause-fewer
returns-clause-fewer c =
    let items = c.args.items.now.items in
    let room : length c.as_mut_slice.result.now ≡ room_of c.args.target = c.as_mut_slice.ensures.len ∙ c.in_ok-bytes.ensures.len ∙ c.room.ensures in
    let left : c.write_packet-len.new.items.items ≡ items_after c.args.target items = c.write_packet-len.ensures.left ∙ ap (λ (r : ℕ). drop (fitting r items) items) room in
    subst (λ xs. length xs < length items) (sym left) (fewer_behind c.args.target items c.requires.target c.requires.some c.requires.fit)
