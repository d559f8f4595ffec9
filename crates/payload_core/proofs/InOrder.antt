-- Packets that come in order are given as they came.
use Rattle.std.proofs.Common.{◌≡◌, ℕ, ◌-◌, true, false, Option, Some, None, [], ◌∷◌, refl, ap, ◌∙◌, arith}
use Rattle.std.proofs.lemmas.Bool.{eqb-true, lt-leb}
use Rattle.payload_core.specs.declared.buffer.Arrival.{Arrival}
use Rattle.payload_core.specs.declared.payload.CodecDepacketizer.{CodecDepacketizer}
use Rattle.payload_core.specs.Buffer.{is_next}
use Rattle.payload_core.specs.Reordering.{is_passed, with_packet, popped, after_pop, frame_of}
use Rattle.payload_core.specs.InOrder.{empty_after, ComesOutAsIn}
use Rattle.payload_core.specs.Waiting.{Waiting}

not_passed : (last : Option ℕ) (n : ℕ) → is_next last n ≡ true → is_passed last n ≡ false
not_passed None n e = refl
not_passed (Some l) n e =
    let one : n - l ≡ 1 = eqb-true (n - l) 1 e in
    lt-leb n l (omega arith)

-- one packet waits
one_waits : {I : Type 0} → CodecDepacketizer → ℕ → Option ℕ → Option ℕ → Arrival I → Waiting I
one_waits depack hold_back deadline last a = record {
  depack = depack;
  hold_back = hold_back;
  packets = (a.meta.seq_no, a) ∷ [];
  paddings = [];
  last = last;
  deadline = deadline;
}

waits : {I : Type 0} (depack : CodecDepacketizer) (hold_back : ℕ) (deadline last : Option ℕ) (a : Arrival I) → is_next last a.meta.seq_no ≡ true
    → with_packet (empty_after depack hold_back deadline last) a ≡ one_waits depack hold_back deadline last a
unfolding one_waits
waits depack hold_back deadline last a next =
    let fresh : is_passed last a.meta.seq_no ≡ false = not_passed last a.meta.seq_no next in
    rw fresh refl

given : {I : Type 0} (depack : CodecDepacketizer) (hold_back : ℕ) (deadline last : Option ℕ) (a : Arrival I) (now : ℕ) (timeout : Option ℕ) → is_next last a.meta.seq_no ≡ true
    → popped (one_waits depack hold_back deadline last a) now timeout ≡ Some (frame_of depack a true)
unfolding one_waits
given depack hold_back deadline last a now timeout next = rw next refl

gone : {I : Type 0} (depack : CodecDepacketizer) (hold_back : ℕ) (deadline last : Option ℕ) (a : Arrival I) (now : ℕ) (timeout : Option ℕ) → is_next last a.meta.seq_no ≡ true
    → after_pop (one_waits depack hold_back deadline last a) now timeout ≡ empty_after depack hold_back deadline (Some a.meta.seq_no)
unfolding one_waits
gone depack hold_back deadline last a now timeout next = rw next refl

pub in_order : {I : Type 0} → ComesOutAsIn I
in_order {I} depack hold_back deadline last a now timeout next =
    let e = waits depack hold_back deadline last a next in (
      ap (λ (b : Waiting I). popped b now timeout) e ∙ given depack hold_back deadline last a now timeout next,
      ap (λ (b : Waiting I). after_pop b now timeout) e ∙ gone depack hold_back deadline last a now timeout next,
    )
