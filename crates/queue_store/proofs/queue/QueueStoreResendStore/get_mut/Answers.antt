use Rattle.std.proofs.Common.{◌≡◌, ◌∙◌, ℕ, Option, Some, ap, sym, subst, refl}
use borrow.Follows.Closed.{read_of}
use Rattle.std.specs.Option.{ghost_name_of}
use Rattle.resend_core.specs.ResendStore.{revalued}
use Rattle.queue_store.specs.Queue.{index_of, StandsFor, with_item, with_value}
use Rattle.queue_store.proofs.RowLaws.{some_when}
use Rattle.queue_store.proofs.QueueLaws.{value_found, value_missed, revalued_stands}
use Rattle.queue_store.proofs.queue.QueueStoreResendStore.get_mut.Goals as goal

pub returns-in_err-index : goal.returns-in_err-index
unfolding with_value
returns-in_err-index g c =
    rw c.from_residual.ensures (refl, record { writes_back = tt; value = value_missed c.args.self.now c.args.position c.in_err-index.ensures; stands = tt })

pub returns : goal.returns
unfolding with_value
returns g c =
    let q = c.args.self.now in
    let p = c.args.position in
    let is : Some c.in_ok-index.index ≡ index_of q.stamps p = c.in_ok-index.ensures in (
      ap (λ (o : Option ℕ). read_of (ghost_name_of c.get_mut.result) (with_item q o) q) is,
      record {
        writes_back = tt;
        value = c.get_mut.ensures.value ∙ value_found q p c.in_ok-index.index is;
        stands = some_when _ c.get_mut.result (λ past w h. subst (λ (o : Option ℕ). StandsFor (with_item q o w) (revalued past p w)) is (revalued_stands c.event_laws.ensures.changed q past p c.in_ok-index.index w (sym is) h));
      },
    )
