-- What a stream gives on which no packet waits.
use Rattle.std.proofs.Common.{◌≡◌, ℕ, List, [], Option, Some, None, refl, sym, ap, ◌∙◌, subst, slice_get}
use Rattle.std.specs.Prelude.{IfSome, option_and_then}
use Rattle.std.specs.Map.{values_of}
use Rattle.std.specs.Option.{option_map}
use Rattle.stream_core.specs.declared.payload_types.TypeRow.{TypeRow}
use Rattle.stream_core.specs.declared.stream_tx.PacketReceipt.{PacketReceipt}
use Rattle.stream_core.specs.declared.transport.Transport.{Transport}
use Rattle.stream_core.specs.declared.packet.RtpPacket.{RtpPacket}
use Rattle.stream_core.specs.Queue.{next_of}
use Rattle.stream_core.specs.Repairing.{RepairsRecord, Repairs, repaired, none_asked, Polls, without, again, first, nothing, repairs_of, repair_of}
use Rattle.stream_core.specs.StreamsRecord.{StreamsRecord, PollsAt, polls_at}
use Rattle.stream_core.specs.Tables.{place_of, value_under}
use Rattle.stream_core.specs.TxRecord.{TxRecord, polled, receipt_of}

some_same : {X : Type 0} (x y : X) → Some x ≡ Some y → x ≡ y
some_same x y e = cc

none_next : (x : TxRecord) → x.queue ≡ [] → next_of x.queue ≡ None
none_next x empty = ap next_of empty

module _ (t : Transport) (now : ℕ) where
  -- a repair has the SSRC of repairs
  repair_ssrc : (ssrc : ℕ) (x : TxRecord) (q after : RepairsRecord) (o : Option PacketReceipt) (p : PacketReceipt) → o ≡ Some p
      → Repairs t now ssrc x q after o → p.header.ssrc ≡ ssrc
  repair_ssrc ssrc x q _ _ p same (repaired sent rest next room) =
      ap (λ (r : PacketReceipt). r.header.ssrc) (sym (some_same (repair_of ssrc x t now q.state.next_seq_no sent) p same))
  repair_ssrc ssrc x q _ _ p same (none_asked next) = absurd cc

  module _ (types : List (ℕ × TypeRow)) where
    polls_repair : (x after : TxRecord) (b q : Option RepairsRecord) (o : Option PacketReceipt) (p : PacketReceipt) → x.queue ≡ [] → o ≡ Some p
        → Polls types t now x b after q o → x.rtx ≡ Some p.header.ssrc
    polls_repair x _ _ _ _ p empty same without =
        let not : None ≡ Some p = sym (ap (option_map (receipt_of x t now)) (none_next x empty)) ∙ same in
        absurd cc
    polls_repair x _ _ _ _ p empty same (again ssrc q after receipt rtx repairs) =
        rtx ∙ ap Some (sym (repair_ssrc ssrc x q after (Some receipt) p same repairs))
    polls_repair x _ _ _ _ p empty same (first ssrc q between after sent rtx repairs next keeps) =
        let not : None ≡ Some sent = sym (none_next x empty) ∙ next in
        absurd cc
    polls_repair x _ _ _ _ p empty same (nothing ssrc q after rtx repairs next) = absurd cc

    -- where no packet waits, what a stream gives is a repair
    pub gives_repair : (place : ℕ) (r after : StreamsRecord) (o : Option PacketReceipt) (p : PacketReceipt) (x : TxRecord) → slice_get (values_of r.tx) place ≡ Some x → x.queue ≡ [] → o ≡ Some p
        → PollsAt types t now place r after o → x.rtx ≡ Some p.header.ssrc
    gives_repair place r _ _ p x at empty same (polls_at y after q o there polls) =
        let this : y ≡ x = some_same y x (sym there ∙ at) in
        ap (λ (z : TxRecord). z.rtx) (sym this)
        ∙ polls_repair y after (repairs_of y r.repairs) q o p (ap (λ (z : TxRecord). z.queue) this ∙ empty) same polls

-- the stream of an SSRC stands at its place
pub stands_at : (ssrc place : ℕ) (es : List (ℕ × TxRecord)) (x : TxRecord) → place_of ssrc es ≡ Some place → value_under ssrc es ≡ Some x
    → slice_get (values_of es) place ≡ Some x
stands_at ssrc place es x at under = sym (ap (λ o. option_and_then (slice_get (values_of es)) o) at) ∙ under

-- what holds of the value, if there is one
pub if_some : {X : Type 0} (P : X → Type 0) (o : Option X) → ((x : X) → o ≡ Some x → P x) → IfSome o P
if_some P None holds = tt
if_some P (Some x) holds = holds x refl
