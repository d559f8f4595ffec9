use Rattle.std.proofs.Common.{◌≡◌, ◌∙◌, ℕ, ◌-◌, ◌<◌, ◌≤◌, List, Option, Some, None, true, false, ap, sym, subst, arith}
use Rattle.std.specs.Prelude.{nat_le}
use Rattle.std.specs.Option.{option_copied}
use Rattle.std.proofs.lemmas.Bool.Decides.{nat_tests}
use Rattle.resend_core.specs.declared.ring.Entry.{Entry}
use Rattle.resend_core.specs.Ring.{held}
use Rattle.resend_core.specs.EvictingBuffer.{Drops}
use Rattle.resend_core.proofs.DropLaws.{drops_gap, drops_lowest, done_young}
use Rattle.resend_core.proofs.rtx_cache_buf.EvictingBuffer.advance.Goals as goal

young : (a b : ℕ) → nat_le a b ≡ true → a ≤ b
young a b t = grind (arith, nat_tests)

old : (a b : ℕ) → nat_le a b ≡ false → b < a
old a b t = grind (arith, nat_tests)

pub returns-then-is_young-clause-done : goal.returns-then-is_young-clause-done
returns-then-is_young-clause-done g c = λ h.
    let mine : held c.args.self.now.ring.items c.args.self.now.low ≡ Some c.in-Some.entry.now =
    ap (λ (r : List (Option (Entry g.row.T.Denot))). held r c.args.self.now.low) (sym c.deref.ensures.value) ∙ sym c.entry_in.ensures ∙ ap option_copied c.in-Some.is in
    done_young c.args.self.now c.in-Some.entry.now c.args.now mine (young (c.args.now - c.in-Some.entry.now.moment) c.args.self.now.age (sym c.is_young.ensures ∙ c.if-is_young.true)) h

pub returns-in-None-clause-drops : goal.returns-in-None-clause-drops
returns-in-None-clause-drops g c = λ h.
    let gap : held c.args.self.now.ring.items c.args.self.now.low ≡ None =
    ap (λ (r : List (Option (Entry g.row.T.Denot))). held r c.args.self.now.low) (sym c.deref.ensures.value) ∙ sym c.entry_in.ensures ∙ ap option_copied c.in-None.is in
    let next = c.saturating_add-self.ensures in
    subst (λ (n : ℕ). Drops c.args.self.now (record c.args.self.now { low = n }) c.args.now) (sym next) (drops_gap c.args.self.now c.args.now gap h)

pub returns-clause-drops : goal.returns-clause-drops
returns-clause-drops g c = λ h.
    let mine : held c.args.self.now.ring.items c.args.self.now.low ≡ Some c.in-Some.entry.now =
    ap (λ (r : List (Option (Entry g.row.T.Denot))). held r c.args.self.now.low) (sym c.deref.ensures.value) ∙ sym c.entry_in.ensures ∙ ap option_copied c.in-Some.is in
    drops_lowest c.args.self.now c.drop_lowest.new.self c.in-Some.entry.now c.args.now mine (old (c.args.now - c.in-Some.entry.now.moment) c.args.self.now.age (sym c.is_young.ensures ∙ c.if-is_young.false)) c.drop_lowest.ensures h
