-- The stream at a place is polled.
use Rattle.std.proofs.Common.{◌≡◌, ℕ, ◌+◌, ◌<◌, true, List, [], ◌∷◌, Option, Some, None, Ok, Err, is_some, length, slice_get, refl, sym, ap, subst, ◌∙◌, arith, option_and_then}
use Rattle.std.specs.Prelude.{◌||◌, Result, IfOk, OnOk}
use Rattle.std.specs.Map.{values_of}
use Rattle.std.specs.Option.{option_map}
use Rattle.indexmap.specs.IndexMap.{set_value_at}
use Rattle.repair_core.specs.Rounds.{Heard}
use Rattle.resend_core.specs.ResendStore.{Past}
use Rattle.stream_core.specs.declared.packet.RtpPacket.{RtpPacket}
use Rattle.stream_core.specs.declared.payload_types.TypeRow.{TypeRow}
use Rattle.stream_core.specs.declared.stream_tx.PacketReceipt.{PacketReceipt}
use Rattle.stream_core.specs.declared.transport.Transport.{Transport}
use Rattle.stream_core.specs.Queue.{next_of, rest_of, rest_after, if_stamped}
use Rattle.stream_core.specs.Repairing.{SentPacket, RepairsView, RepairsRecord, RepairsStandFor, Polls, without, Stays, same, IsUsedUp, has_asked, state_in, repairs_of}
use Rattle.stream_core.specs.StreamsRecord.{StreamsView, StreamsRecord, StandsFor, PollsAt, polls_at, StaysAt, stays_at, IsUsedUpAt, is_asked, is_ready, all_waiting, all_asked}
use Rattle.stream_core.specs.Tables.{place_of, value_under, change_place}
use Rattle.stream_core.specs.TxRecord.{TxRecord, polled, after_poll}
use Rattle.stream_core.proofs.Alongside.{set_same}
use Rattle.stream_core.proofs.RepairSteps.{set_const, waiting_set, asked_set, repairs_there, repairs_none, repairs_set}

-- a stream has no repairs, or they are not in the table
pub not_both : {X : Type 0} (vs : List X) (o p : Option ℕ) → ((a b : ℕ) → o ≡ Some a → p ≡ Some b → ⊥) → option_and_then (λ rtx. option_and_then (slice_get vs) p) o ≡ None
not_both vs None p h = refl
not_both vs (Some a) None h = refl
not_both vs (Some a) (Some b) h = absurd (h a b refl refl)

-- what two clauses of a result give together
pub both_ok : {T E : Type 0} (r : Result T E) (P : T → Type 0) (Q : Type 0) (R : T → Type 0) → ((x : T) → P x → Q → R x) → IfOk r P → OnOk r Q → IfOk r R
both_ok (Ok x) P Q R f p q = f x p q
both_ok (Err e) P Q R f p q = tt

shorter_after : (p : RtpPacket) (ps : List RtpPacket) (o : Option ℕ) → is_some (if_stamped p o) ≡ true → length (rest_after p ps o) < length (p ∷ ps)
shorter_after p ps None h = absurd cc
shorter_after p ps (Some t) h = omega arith

shorter : (ps : List RtpPacket) → is_some (next_of ps) ≡ true → length (rest_of ps) < length ps
shorter [] h = absurd cc
shorter (p ∷ ps) h = shorter_after p ps p.timestamp h

module _ {W S : Type 0} (remembers : W → Heard → Type 0) (stands_for : S → Past SentPacket → Type 0) (s inside : StreamsView W S) (view : inside ≡ s)
    (types : List (ℕ × TypeRow)) (t : Transport) (now place : ℕ) (x : TxRecord) (there : slice_get (values_of inside.tx) place ≡ Some x) where
  mine : (r : StreamsRecord) → StandsFor remembers stands_for s r → StandsFor remembers stands_for inside r
  mine r h = subst (λ v. StandsFor remembers stands_for v r) (sym view) h

  at_record : (r : StreamsRecord) → StandsFor remembers stands_for inside r → slice_get (values_of r.tx) place ≡ Some x
  at_record r m = ap (λ l. slice_get (values_of l) place) (sym m.tx) ∙ there

  pub ready_at : option_map (is_ready s.repairs) (slice_get (values_of s.tx) place) ≡ Some true → is_ready inside.repairs x ≡ true
  ready_at h =
      let e : Some (is_ready inside.repairs x) ≡ Some true =
      ap (option_map (is_ready inside.repairs)) (sym there) ∙ ap (λ (v : StreamsView W S). option_map (is_ready v.repairs) (slice_get (values_of v.tx) place)) view ∙ h in
      cc

  ready_of : is_ready inside.repairs x ≡ true → option_map (is_ready s.repairs) (slice_get (values_of s.tx) place) ≡ Some true
  ready_of h =
      ap (λ (v : StreamsView W S). option_map (is_ready v.repairs) (slice_get (values_of v.tx) place)) (sym view)
      ∙ ap (option_map (is_ready inside.repairs)) there
      ∙ ap Some h

  module _ (rtx i : ℕ) (v : RepairsView S) (has : x.rtx ≡ Some rtx) (where_ : place_of x.ssrc inside.repairs ≡ Some i) (at : slice_get (values_of inside.repairs) i ≡ Some v) where
    of_record : (r : StreamsRecord) (q : RepairsRecord) → value_under x.ssrc r.repairs ≡ Some q → repairs_of x r.repairs ≡ Some q
    of_record r q is = ap (option_and_then (λ (n : ℕ). value_under x.ssrc r.repairs)) has ∙ is

    asked_is : is_asked inside.repairs x ≡ has_asked (Some v.state)
    asked_is =
        ap (λ o. has_asked (state_in (option_and_then (λ (n : ℕ). value_under x.ssrc inside.repairs) o))) has
        ∙ ap (λ o. has_asked (state_in (option_and_then (slice_get (values_of inside.repairs)) o))) where_
        ∙ ap (λ o. has_asked (state_in o)) at

    pub polls_there : (y : TxRecord) (w : RepairsView S) (o : Option PacketReceipt)
        → ((q : RepairsRecord) → RepairsStandFor stands_for v q → (after : RepairsRecord) × Polls types t now x (Some q) y (Some after) o × RepairsStandFor stands_for w after)
        → (r : StreamsRecord) → StandsFor remembers stands_for s r
        → (after : StreamsRecord) × PollsAt types t now place r after o
        × StandsFor remembers stands_for (record inside { tx = set_value_at inside.tx place y; repairs = set_value_at inside.repairs i w }) after
    polls_there y w o step r h =
        let m = mine r h in
        let q = repairs_there stands_for inside.repairs r.repairs x.ssrc m.repairs i v where_ at in
        let k = step q.0 q.2 in (
          _,
          polls_at x y (Some k.0) o (at_record r m) (subst (λ a. Polls types t now x a y (Some k.0) o) (sym (of_record r q.0 q.1)) k.1),
          record {
            threshold = m.threshold;
            known = m.known;
            rx = m.rx;
            tx = set_const inside.tx place x y there ∙ ap (λ (l : List (ℕ × TxRecord)). change_place (λ old. y) l place) m.tx;
            repairs = repairs_set stands_for inside.repairs r.repairs x.ssrc m.repairs i v w k.0 where_ at k.2;
          },
        )

    pub stays_there : (y : TxRecord) (w : RepairsView S) → y ≡ x
        → ((q : RepairsRecord) → RepairsStandFor stands_for v q → (after : RepairsRecord) × Stays now (Some q) (Some after) × RepairsStandFor stands_for w after)
        → (r : StreamsRecord) → StandsFor remembers stands_for s r
        → (after : StreamsRecord) × StaysAt now place r after
        × StandsFor remembers stands_for (record inside { tx = set_value_at inside.tx place y; repairs = set_value_at inside.repairs i w }) after
    stays_there y w unchanged step r h =
        let m = mine r h in
        let q = repairs_there stands_for inside.repairs r.repairs x.ssrc m.repairs i v where_ at in
        let k = step q.0 q.2 in (
          _,
          stays_at x (Some k.0) (at_record r m) (subst (λ a. Stays now a (Some k.0)) (sym (of_record r q.0 q.1)) k.1),
          record {
            threshold = m.threshold;
            known = m.known;
            rx = m.rx;
            tx = set_same inside.tx place x y there unchanged ∙ m.tx;
            repairs = repairs_set stands_for inside.repairs r.repairs x.ssrc m.repairs i v w k.0 where_ at k.2;
          },
        )

    pub used_there : ((q : RepairsRecord) → RepairsStandFor stands_for v q → IsUsedUp now q) → (r : StreamsRecord) → StandsFor remembers stands_for s r → (ssrc : ℕ) × IsUsedUpAt now place ssrc r
    used_there step r h =
        let m = mine r h in
        let q = repairs_there stands_for inside.repairs r.repairs x.ssrc m.repairs i v where_ at in
        (rtx, (x, q.0, at_record r m, has, of_record r q.0 q.1, step q.0 q.2))

    pub ready_there : (has_asked (Some v.state) || is_some (next_of x.queue)) ≡ true → option_map (is_ready s.repairs) (slice_get (values_of s.tx) place) ≡ Some true
    ready_there h = ready_of (ap (λ b. b || is_some (next_of x.queue)) asked_is ∙ h)

    pub fewer_there : (y : TxRecord) (w : RepairsView S)
        → ((has_asked (Some v.state) || is_some (next_of x.queue)) ≡ true → length w.state.resends + length y.queue < length v.state.resends + length x.queue)
        → option_map (is_ready s.repairs) (slice_get (values_of s.tx) place) ≡ Some true
        → all_waiting (set_value_at inside.tx place y) + all_asked (set_value_at inside.repairs i w) < all_waiting s.tx + all_asked s.repairs
    fewer_there y w fewer ready =
        let some : (has_asked (Some v.state) || is_some (next_of x.queue)) ≡ true = ap (λ b. b || is_some (next_of x.queue)) (sym asked_is) ∙ ready_at ready in
        let less = fewer some in
        let waits = waiting_set inside.tx place x y there in
        let asks = asked_set inside.repairs i v w at in
        let same_tx : all_waiting inside.tx ≡ all_waiting s.tx = ap (λ (z : StreamsView W S). all_waiting z.tx) view in
        let same_repairs : all_asked inside.repairs ≡ all_asked s.repairs = ap (λ (z : StreamsView W S). all_asked z.repairs) view in
        omega (arith, less, waits, asks, same_tx, same_repairs)

  module _ (no : (a b : ℕ) → x.rtx ≡ Some a → place_of x.ssrc inside.repairs ≡ Some b → ⊥) where
    none : repairs_of x inside.repairs ≡ None
    none = not_both (values_of inside.repairs) x.rtx (place_of x.ssrc inside.repairs) no

    none_record : (r : StreamsRecord) → StandsFor remembers stands_for inside r → (o : Option ℕ) → x.rtx ≡ o → repairs_of x r.repairs ≡ None
    none_record r m None is = ap (option_and_then (λ (n : ℕ). value_under x.ssrc r.repairs)) is
    none_record r m (Some n) is =
        ap (option_and_then (λ (k : ℕ). value_under x.ssrc r.repairs)) is
        ∙ gone (place_of x.ssrc inside.repairs) refl
      where
        gone : (p : Option ℕ) → place_of x.ssrc inside.repairs ≡ p → value_under x.ssrc r.repairs ≡ None
        gone None e = repairs_none stands_for inside.repairs r.repairs x.ssrc m.repairs e
        gone (Some i) e = absurd (no n i is e)

    pub polls_alone : (y : TxRecord) (o : Option PacketReceipt) → o ≡ polled x t now → y ≡ after_poll x → (r : StreamsRecord) → StandsFor remembers stands_for s r
        → (after : StreamsRecord) × PollsAt types t now place r after o × StandsFor remembers stands_for (record inside { tx = set_value_at inside.tx place y }) after
    polls_alone y o given after r h =
        let m = mine r h in
        let is = none_record r m x.rtx refl in
        let polls : Polls types t now x (repairs_of x r.repairs) y None o =
        subst (λ a. Polls types t now x a y None o) (sym is)
        (subst (λ (z : TxRecord). Polls types t now x None z None o) (sym after) (subst (λ z. Polls types t now x None (after_poll x) None z) (sym given) without)) in (
          _,
          polls_at x y None o (at_record r m) polls,
          record {
            threshold = m.threshold;
            known = m.known;
            rx = m.rx;
            tx = set_const inside.tx place x y there ∙ ap (λ (l : List (ℕ × TxRecord)). change_place (λ old. y) l place) m.tx;
            repairs = m.repairs;
          },
        )

    pub stays_alone : (y : TxRecord) → y ≡ x → (r : StreamsRecord) → StandsFor remembers stands_for s r
        → (after : StreamsRecord) × StaysAt now place r after × StandsFor remembers stands_for (record inside { tx = set_value_at inside.tx place y }) after
    stays_alone y unchanged r h =
        let m = mine r h in (
          _,
          stays_at x None (at_record r m) (subst (λ a. Stays now a None) (sym (none_record r m x.rtx refl)) (same None)),
          record { threshold = m.threshold; rx = m.rx; known = m.known; tx = set_same inside.tx place x y there unchanged ∙ m.tx; repairs = m.repairs },
        )

    pub fewer_alone : (y : TxRecord) → y ≡ after_poll x → option_map (is_ready s.repairs) (slice_get (values_of s.tx) place) ≡ Some true
        → all_waiting (set_value_at inside.tx place y) + all_asked inside.repairs < all_waiting s.tx + all_asked s.repairs
    fewer_alone y after ready =
        let some : is_some (next_of x.queue) ≡ true = ap (λ o. has_asked (state_in o) || is_some (next_of x.queue)) (sym none) ∙ ready_at ready in
        let less = shorter x.queue some in
        let waits = waiting_set inside.tx place x y there in
        let queue : length y.queue ≡ length (rest_of x.queue) = ap (λ (z : TxRecord). length z.queue) after in
        let same_tx : all_waiting inside.tx ≡ all_waiting s.tx = ap (λ (z : StreamsView W S). all_waiting z.tx) view in
        let same_repairs : all_asked inside.repairs ≡ all_asked s.repairs = ap (λ (z : StreamsView W S). all_asked z.repairs) view in
        omega (arith, less, waits, queue, same_tx, same_repairs)
