-- What a call of the application sends is a seal of its item.
use Rattle.std.proofs.Common.{◌≡◌, ℕ, suc, ◌+◌, ◌-◌, ◌<◌, ◌≤◌, ◌^◌, Bool, true, false, List, [], ◌∷◌, ◌++◌, length, take, Option, Some, refl, sym, ap, ◌∙◌, subst, arith}
use Rattle.std.specs.Prelude.{◌==◌, if◌then◌else◌, nat_le, ◌&&◌}
use Rattle.std.specs.List.{flat_map}
use Rattle.std.specs.Option.{option_map}
use Rattle.std.proofs.lemmas.List.{append-nil, length-append}
use Rattle.std.proofs.lemmas.Bool.Decides.{nat_tests}
use Rattle.rtcp_wire.specs.declared.feedback.AppSpecificFeedback.{AppSpecificFeedback as Application}
use Rattle.rtcp_wire.specs.declared.packet.Rtcp.{Rtcp}
use Rattle.rtcp_wire.specs.declared.packet.Rtcp.TheVariants.{AppSpecificFeedback}
use Rattle.rtcp_wire.specs.Texts.{text_of, fitting}
use Rattle.srtp_core.specs.Cipher.{CipherMeaning}
use Rattle.srtp_core.specs.Contexts.{SrtpState}
use Rattle.session_core.specs.declared.datagram.Datagram.{Datagram}
use Rattle.session_core.specs.Calls.{with_feedback}
use Rattle.session_core.specs.Feedback.{FitsAlone, room_of, leaving, compound_of, sealed_compound, due_of, some_due, is_used_up}
use Rattle.session_core.specs.SessionRecord.{SessionState, SessionRecord}
use Rattle.session_core.specs.Sending.{NextDatagram, silent, packet as leaves, compound}
use Rattle.session_turns.specs.Rights.{IsRightRtcp, IsCallRight, CallsAreRight}

-- where items wait that fit, the first one leaves
first_leaves : (target : ℕ) (x : Rtcp) (xs : List Rtcp) → 900 ≤ target → FitsAlone x → (n : ℕ) × (leaving target (x ∷ xs) ≡ suc n)
first_leaves target x xs wide fits =
    let few = fits.few in
    let fit : nat_le (length (text_of x)) (room_of target) ≡ true = grind (arith, nat_tests) in
    (fitting (room_of target - length (text_of x)) xs, rw fit refl)

pub compound_begins : (target : ℕ) (x : Rtcp) (xs : List Rtcp) → 900 ≤ target → FitsAlone x → (rest : List ℕ) × (compound_of target (x ∷ xs) ≡ text_of x ++ rest)
compound_begins target x xs wide fits =
    let n = first_leaves target x xs wide fits in
    (flat_map text_of (take n.0 xs), ap (λ (k : ℕ). flat_map text_of (take k (x ∷ xs))) n.1)

pub compound_long : (target : ℕ) (x : Rtcp) (xs : List Rtcp) → 900 ≤ target → FitsAlone x → 8 ≤ length (compound_of target (x ∷ xs))
compound_long target x xs wide fits =
    let b = compound_begins target x xs wide fits in
    let long = fits.long in
    let all : length (compound_of target (x ∷ xs)) ≡ length (text_of x) + length b.0 = ap length b.1 ∙ length-append (text_of x) b.0 in
    omega arith

-- one item alone
compound_alone : (target : ℕ) (x : Rtcp) → 900 ≤ target → FitsAlone x → compound_of target (x ∷ []) ≡ text_of x
compound_alone target x wide fits =
    let few = fits.few in
    let fit : nat_le (length (text_of x)) (room_of target) ≡ true = grind (arith, nat_tests) in
    ap (λ (b : Bool). flat_map text_of (take (if b then suc 0 else 0) (x ∷ []))) fit ∙ append-nil (text_of x)

-- an index under which one more datagram can be sealed
pub index_left : (n : ℕ) → n ≤ 2 ^ 31 → (n == 2 ^ 31) ≡ false → n < 2 ^ 31
index_left n le ne = grind (arith, nat_tests)

pub right_compound : (cipher : CipherMeaning) (own : SrtpState) (plain : List ℕ) → 8 ≤ length plain → own.srtcp_index < 2 ^ 31
    → IsRightRtcp cipher own (sealed_compound cipher plain own)
right_compound cipher own plain long small = record { rtcp = refl; header = long; source = refl; small = small; sealed = refl }

-- after moment 0 all that waits is due
pub all_due : (time : ℕ) (s : SessionState) → 0 < time → due_of time s ≡ s.feedback
all_due time s late = let e : (time == 0) ≡ false = grind (arith, nat_tests) in ap (λ (b : Bool). if b then [] else s.feedback) e

module _ (cipher : CipherMeaning) (r : SessionRecord) (own : SrtpState) (time : ℕ) (feedback : Application) (key : r.state.sealing ≡ Some own) (empty : r.state.feedback ≡ [])
    (wide : 900 ≤ r.state.target) (bounded : own.srtcp_index ≤ 2 ^ 31) (late : 0 < time) (fits : FitsAlone (AppSpecificFeedback feedback)) where
  abbrev item : Rtcp
  item = AppSpecificFeedback feedback

  abbrev given : SessionRecord
  given = record r { state = with_feedback item r.state }

  waits : given.state.feedback ≡ item ∷ []
  waits = ap (λ (l : List Rtcp). l ++ item ∷ []) empty

  due : due_of time given.state ≡ item ∷ []
  due = all_due time given.state late ∙ waits

  call_right : (after : SessionRecord) (o : Option Datagram) (d : Datagram) → o ≡ Some d → NextDatagram cipher time given after o → IsCallRight cipher own feedback d
  call_right _ _ d e (silent quiet none) = absurd cc
  call_right _ _ d e (leaves after o loud none next) = let both : [] ≡ item ∷ [] = sym none ∙ due in absurd cc
  call_right _ _ d e (compound some left) =
      let plain : compound_of given.state.target given.state.feedback ≡ text_of item =
      ap (compound_of given.state.target) waits ∙ compound_alone given.state.target item wide fits in
      let is : option_map (sealed_compound cipher (compound_of given.state.target given.state.feedback)) r.state.sealing ≡ Some (sealed_compound cipher (text_of item) own) =
      ap (λ (p : List ℕ). option_map (sealed_compound cipher p) r.state.sealing) plain ∙ ap (option_map (sealed_compound cipher (text_of item))) key in
      let same : sealed_compound cipher (text_of item) own ≡ d = cc in
      let not_used : (own.srtcp_index == 2 ^ 31) ≡ false =
      sym (ap (λ (l : List Rtcp). some_due l && is_used_up (Some own)) due) ∙ (ap (λ (k : Option SrtpState). some_due (due_of time given.state) && is_used_up k) (sym key) ∙ left) in
      let small : own.srtcp_index < 2 ^ 31 = index_left own.srtcp_index bounded not_used in
      subst (IsCallRight cipher own feedback) same
      (record { right = right_compound cipher own (text_of item) fits.long small; index = refl; plain = refl })

pub calls_are_right : CallsAreRight
calls_are_right cipher C side r after a own time feedback d fit mirrors key late fits next =
    let is : mirrors.own ≡ own = let both : Some mirrors.own ≡ Some own = sym mirrors.seals ∙ key in cc in
    let index : own.srtcp_index ≡ a.rtcp = ap (λ (s : SrtpState). s.srtcp_index) (sym is) ∙ mirrors.index in
    let bound = mirrors.bounded in
    call_right cipher r own time feedback key mirrors.feedback mirrors.target (omega (arith, index, bound)) late fits after (Some d) d refl next
