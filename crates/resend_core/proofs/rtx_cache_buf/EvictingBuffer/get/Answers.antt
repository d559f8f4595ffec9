use Rattle.std.proofs.Common.{◌≡◌, ◌∙◌, sym, ap, subst, List, Option, None, Some}
use Rattle.std.specs.Prelude.{option_map}
use Rattle.std.specs.Option.{option_copied}
use Rattle.resend_core.specs.declared.ring.Entry.{Entry}
use Rattle.resend_core.specs.Ring.{held}
use Rattle.resend_core.specs.ResendStore.{HeldAs}
use Rattle.resend_core.specs.EvictingBuffer.{value_at}
use Rattle.resend_core.proofs.HeldLaws.{held_as}
use Rattle.resend_core.proofs.rtx_cache_buf.EvictingBuffer.get.Goals as goal

pub returns-in-Some-clause-held : goal.returns-in-Some-clause-held
unfolding value_at
returns-in-Some-clause-held g c = λ past h.
    let is : held c.args.self.now.ring.items c.args.position ≡ Some c.in-Some.entry.now =
    ap (λ (r : List (Option (Entry g.row.T.Denot))). held r c.args.position) (sym c.deref.ensures.value) ∙ sym c.entry_at.ensures ∙ ap option_copied c.in-Some.is in
    subst (λ (o : Option (Entry g.row.T.Denot)). HeldAs past c.args.position (option_map (λ (e : Entry g.row.T.Denot). e.value) o)) is (held_as c.args.self.now past c.args.position h)

pub returns-in-None-clause-held : goal.returns-in-None-clause-held
unfolding value_at
returns-in-None-clause-held g c = λ past h.
    let is : held c.args.self.now.ring.items c.args.position ≡ None =
    ap (λ (r : List (Option (Entry g.row.T.Denot))). held r c.args.position) (sym c.deref.ensures.value) ∙ sym c.entry_at.ensures ∙ ap option_copied c.in-None.is in
    subst (λ (o : Option (Entry g.row.T.Denot)). HeldAs past c.args.position (option_map (λ (e : Entry g.row.T.Denot). e.value) o)) is (held_as c.args.self.now past c.args.position h)
