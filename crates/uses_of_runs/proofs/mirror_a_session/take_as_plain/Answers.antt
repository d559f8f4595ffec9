use Rattle.std.proofs.Common.{Ok, Err}
use Rattle.std.specs.Prelude.{Result, IfOk}
use Rattle.uses_of_runs.proofs.mirror_a_session.take_as_plain.Goals as goal

if_ok_map : {X E : Type 0} (o : Result X E) (P Q : X → Type 0) → ((x : X) → P x → Q x) → IfOk o P → IfOk o Q
if_ok_map (Ok x) P Q f p = f x p
if_ok_map (Err e) P Q f p = tt

pub returns : goal.returns
returns g c =
    if_ok_map c.handle_rtp_receive.result _ _ (λ o says C side r a stands mirrors.
    let k = says r stands in
    (k.0, c.maps_nothing.ensures g.C.SrtpCipher.meaning C side r k.0 a c.args.now c.args.bytes.now o mirrors k.1, k.2)) c.handle_rtp_receive.ensures.received
