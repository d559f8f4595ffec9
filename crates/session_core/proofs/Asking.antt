-- What NACKs ask for, item by item.
use Rattle.std.proofs.Common.{◌≡◌, ◌<◌, ◌+◌, ℕ, List, [], ◌∷◌, ◌++◌, length, take, sym, ap, ◌∙◌, add-one}
use Rattle.std.proofs.Common.{get_or}
use Rattle.std.proofs.Math.Seq.{take-suc}
use Rattle.rtcp_wire.specs.declared.rtcp_fb.RtcpFb.{RtcpFb}
use Rattle.stream_core.specs.Repairing.{RepairsRecord}
use Rattle.session_core.specs.Hearing.{AskedBy, AskedByAll, asked_none, asked_next}

-- one item more
pub asked_more : (now : ℕ) (fs : List RtcpFb) (f : RtcpFb) (qs between after : List (ℕ × RepairsRecord)) → AskedByAll now fs qs between → AskedBy now f between after
    → AskedByAll now (fs ++ f ∷ []) qs after
asked_more now _ f qs _ after (asked_none _) by = asked_next f [] qs after after by (asked_none after)
asked_more now _ f qs between after (asked_next g gs _ next _ first rest) by = asked_next g (gs ++ f ∷ []) qs next after first (asked_more now gs f next between after rest by)

pub one_more : (fs : List RtcpFb) (i : ℕ) (f : RtcpFb) → i < length fs → f ≡ get_or fs i f → take (i + 1) fs ≡ take i fs ++ f ∷ []
one_more fs i f within read = ap (λ n. take n fs) (add-one i) ∙ take-suc fs i f within ∙ ap (λ x. take i fs ++ x ∷ []) (sym read)
