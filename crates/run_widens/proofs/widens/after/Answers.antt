use Rattle.std.proofs.Common.{◌≡◌, true, false, not, refl, sym, ◌∙◌, ap}
use denote.Enum.Bare.{sameb}
use Rattle.media_model.specs.contracts.entry.Side as side
use Rattle.rtp_base.specs.contracts.kind.Kind as kind
use Rattle.rtp_base.specs.declared.kind.Kind.{Kind}
use Rattle.rtp_base.specs.declared.kind.Kind.TheVariants.{Rtp, Rtcp}
use Rattle.media_model.specs.declared.entry.Side.{Side}
use Rattle.media_model.specs.declared.entry.Side.TheVariants.{A, B}
use Rattle.media_model.specs.Sides.{same_side}
use Rattle.run_model.specs.Events.{Plain}
use Rattle.run_model.specs.Transcripts.{plain_in}
use Rattle.run_widens.specs.Taken.{with_first, with_tried}
use Rattle.run_widens.proofs.WidensLaws.{first_told, repair_told}
use Rattle.run_widens.proofs.widens.after.Goals as goal

own_side : (a b : Side) → not (sameb side.the_type a b) ≡ false → same_side b a ≡ true
own_side A A e = refl
own_side A B e = absurd cc
own_side B A e = absurd cc
own_side B B e = refl

rtp_kind : (k : Kind) → not (sameb kind.the_type k Rtp) ≡ false → k ≡ Rtp
rtp_kind Rtp e = refl
rtp_kind Rtcp e = absurd cc

pub returns-then-not-is_repair : goal.returns-then-not-is_repair
returns-then-not-is_repair c past at before holds =
    let o = c.in-Opened.opened in
    let plain = c.read-packet.ensures.plain ∙ ap (plain_in c.args.line.now.exts.now) c.as_slice.ensures in
    first_told c.args.line.now past c.args.entry.now o c.in-Opened.is (own_side o.side c.args.line.now.side (sym c.ne.ensures ∙ c.if-ne.false))
    (rtp_kind o.kind (sym c.ne-else-ne.ensures ∙ c.if-ne-2.false)) (sym c.concerns.ensures ∙ c.if-not-concerns.false)
    c.read-packet.result.pt (ap (λ (x : Plain). x.pt) plain) (sym c.is_repair.ensures ∙ c.if-not-is_repair.true) c.args.taken c.first.result before
    (c.first.ensures ∙ ap (λ n. with_first n c.args.taken) c.from-number.ensures)

pub returns : goal.returns
returns c past at before holds =
    let o = c.in-Opened.opened in
    let plain = c.read-packet.ensures.plain ∙ ap (plain_in c.args.line.now.exts.now) c.as_slice.ensures in
    repair_told c.args.line.now past c.args.entry.now o c.in-Opened.is (own_side o.side c.args.line.now.side (sym c.ne.ensures ∙ c.if-ne.false))
    (rtp_kind o.kind (sym c.ne-else-ne.ensures ∙ c.if-ne-2.false)) (sym c.concerns.ensures ∙ c.if-not-concerns.false)
    c.read-packet.result plain (sym c.is_repair.ensures ∙ c.if-not-is_repair.false) c.args.sent.now at holds c.args.taken c.tried.result before
    (c.tried.ensures ∙ (λ i. with_tried (c.eq.ensures i) (c.from-number.ensures i) c.args.taken)) c.after_repair.result c.after_repair.ensures
