use Rattle.std.proofs.Common.{◌≡◌, ap, sym, ◌∙◌}
use Rattle.media_units.specs.History.{History, recent}
use Rattle.media_units.proofs.Purges.{purged_all, recent_held}
use Rattle.media_units.proofs.history.ValueHistory.purge_old.Goals as goal

pub returns-clause-unfalling : goal.returns-clause-unfalling
returns-clause-unfalling g c =
    purged_all _ _ c.args.now _ c.loop-now.self.held c.args.self.now.held (ap (λ (h : History). h.limit) c.loop-now.invariant.same)
    (c.drop_old.ensures.done c.loop-now-test.false) c.drop_old.ensures.purged c.loop-now.invariant.rest

pub returns-clause-stands : goal.returns-clause-stands
returns-clause-stands g c pushes purged_at stands le =
    let limit_is : c.drop_old.new.self.limit ≡ c.args.self.now.limit =
    ap (λ (h : History). h.limit) c.drop_old.ensures.same ∙ ap (λ (h : History). h.limit) c.loop-now.invariant.same in
    record {
      unfalling = stands.unfalling;
      held =
          recent_held c.args.self.now.limit purged_at c.args.now c.args.self.now.held c.drop_old.new.self.held pushes stands.unfalling stands.held le (returns-clause-unfalling g c)
          ∙ ap (λ limit. recent limit c.args.now pushes) (sym limit_is);
    }
