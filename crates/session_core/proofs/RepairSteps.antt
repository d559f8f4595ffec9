-- Which datagrams are repairs, case by case.
use Rattle.std.proofs.Common.{◌≡◌, ℕ, true, false, List, Some, None, refl}
use Rattle.std.specs.Prelude.{◌==◌}
use Rattle.rtp_wire.specs.declared.header.RtpHeader.{RtpHeader}
use Rattle.stream_core.specs.declared.payload_types.TypeRow.{TypeRow}
use Rattle.stream_core.specs.Repairing.{primary_type_of}
use Rattle.stream_core.specs.RxRecord.{RxRecord}
use Rattle.stream_core.specs.Tables.{place_of, value_under}
use Rattle.session_core.specs.Repairs.{is_known, original_under, repaired_by}

module _ (types : List (ℕ × TypeRow)) (rx : List (ℕ × RxRecord)) (originals : List (ℕ × ℕ)) (h : RtpHeader) where
  pub repairs_probe : (h.ssrc == 0) ≡ true → repaired_by types rx originals h ≡ None
  repairs_probe e = rw e refl

  pub repairs_none : (i : ℕ) → (h.ssrc == 0) ≡ false → place_of h.ssrc rx ≡ Some i → primary_type_of types h.payload_type ≡ None
      → repaired_by types rx originals h ≡ None
  repairs_none i e p t = rw (e, p, t) refl

  pub repairs_under : (h.ssrc == 0) ≡ false → place_of h.ssrc rx ≡ None → repaired_by types rx originals h ≡ original_under types rx originals h
  repairs_under e p = rw (e, p) refl

  pub unknown_under : is_known types h.payload_type ≡ false → original_under types rx originals h ≡ None
  unknown_under e = rw e refl

  pub none_under : is_known types h.payload_type ≡ true → value_under h.ssrc originals ≡ None → original_under types rx originals h ≡ None
  none_under e o = rw (e, o) refl

  pub gone_under : (original : ℕ) → is_known types h.payload_type ≡ true → value_under h.ssrc originals ≡ Some original → place_of original rx ≡ None
      → original_under types rx originals h ≡ None
  gone_under original e o p = rw (e, o, p) refl
