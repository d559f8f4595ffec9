use Rattle.std.proofs.Common.{ℕ, List, [], ◌∷◌, ◌++◌, ap, subst, ◌∙◌, append_assoc}
use Rattle.media_model.specs.declared.entry.Entry.{Entry}
use Rattle.media_model.specs.declared.entry.Entry.TheVariants.{Got}
use Rattle.media_laws.specs.Opening.{got_as}
use Rattle.media_laws.specs.Play.{got}
use Rattle.media_play.specs.Sessions.{received_entries, TakesIn}
use Rattle.media_play.proofs.acting.receive.Goals as goal

pub returns-clause-acts : goal.returns-clause-acts
returns-clause-acts g c deed valid brings setup a at index =
    let K = g.C.SrtpCipher.meaning in
    let side = c.args.side in
    let time = c.args.time in
    let kind = c.args.kind in
    let log = c.args.log.now in
    let came = got_as side time kind c.args.bytes in
    let received = c.in_ok-received.received in
    let brought = received_entries side received in
    let takes : TakesIn K setup side a c.receive.new.self log came received =
    subst (λ (l : List ℕ). TakesIn K setup side a c.receive.new.self log (got_as side time kind l) received) c.as_slice.ensures (c.in_ok-received.ensures setup side a log at) in (
      Got came ∷ brought,
      c.in_ok-push_received.ensures.done ∙ ap (λ (l : List Entry). l ++ brought) c.in_ok-push.ensures.ok ∙ append_assoc log (Got came ∷ []) brought,
      record { valid = valid setup; are_of = got came brought brings takes.brought; turns = takes.turns },
    )
