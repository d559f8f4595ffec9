-- A stream that sends begins anew under another SSRC.
use Rattle.std.proofs.Common.{◌≡◌, ℕ, Bool, true, List, Option, Some, None, is_some, slice_get, sym, ap, subst, ◌∙◌}
use Rattle.std.specs.Prelude.{if◌then◌else◌, Result, Ok, Err, IfOk}
use Rattle.std.specs.Map.{values_of}
use Rattle.std.specs.Option.{option_map}
use Rattle.indexmap.specs.IndexMap.{set_value_at}
use Rattle.repair_core.specs.Rounds.{Heard}
use Rattle.resend_core.specs.ResendStore.{Past}
use Rattle.rtx_core.specs.Resends.{created, begun_anew}
use Rattle.stream_core.specs.Repairing.{SentPacket, RepairsView, RepairsRecord, RepairsStandFor}
use Rattle.stream_core.specs.StreamsRecord.{StreamsView, StreamsRecord, StandsFor, anew_from, with_anew, has_cap, with_reset_tx}
use Rattle.stream_core.specs.Tables.{place_of, value_under, with_value, without_key, change_at, renamed, rekeyed, Along}
use Rattle.stream_core.specs.TxRecord.{TxRecord, anew_under}
use Rattle.stream_core.proofs.Renaming.{rekeyed_value, set_rekeyed, rekeyed_is}
use Rattle.stream_core.proofs.RepairSteps.{repairs_there, repairs_none, along_with_value}
use Rattle.stream_core.proofs.TableSteps.{without_along}

-- what holds of a value for each record holds for each record of the value
pub if_ok_each : {X E R : Type 0} (x : Result X E) (H : R → Type 0) (P : R → X → Type 0) → ((r : R) → H r → IfOk x (P r)) → IfOk x (λ a. (r : R) → H r → P r a)
if_ok_each (Ok a) H P each = each
if_ok_each (Err e) H P each = tt

-- what a stream sends again begins anew, by what it had
module _ {S : Type 0} (stands_for : S → Past SentPacket → Type 0) (vs : List (ℕ × RepairsView S)) (ssrc first : ℕ) (q : RepairsView S) where
  pub anew_there : (i : ℕ) (x : RepairsView S) → place_of ssrc vs ≡ Some i → slice_get (values_of vs) i ≡ Some x
      → ((r : RepairsRecord) → RepairsStandFor stands_for x r → RepairsStandFor stands_for q (begun_anew first r))
      → (rs : List (ℕ × RepairsRecord)) → Along (RepairsStandFor stands_for) vs rs → RepairsStandFor stands_for q (anew_from first (value_under ssrc rs))
  anew_there i x place at step rs all =
      let k = repairs_there stands_for vs rs ssrc all i x place at in
      subst (λ o. RepairsStandFor stands_for q (anew_from first o)) (sym k.1) (step k.0 k.2)

  pub anew_none : place_of ssrc vs ≡ None → RepairsStandFor stands_for q (created first)
      → (rs : List (ℕ × RepairsRecord)) → Along (RepairsStandFor stands_for) vs rs → RepairsStandFor stands_for q (anew_from first (value_under ssrc rs))
  anew_none none h rs all = subst (λ o. RepairsStandFor stands_for q (anew_from first o)) (sym (repairs_none stands_for vs rs ssrc all none)) h

-- whether there is a cap, by what it had
module _ {S : Type 0} (stands_for : S → Past SentPacket → Type 0) (vs : List (ℕ × RepairsView S)) (ssrc : ℕ) where
  pub cap_there : (i : ℕ) (x : RepairsView S) (found : Bool) → place_of ssrc vs ≡ Some i → slice_get (values_of vs) i ≡ Some x → found ≡ is_some x.state.cap
      → (rs : List (ℕ × RepairsRecord)) → Along (RepairsStandFor stands_for) vs rs → found ≡ has_cap (value_under ssrc rs)
  cap_there i x found place at is rs all =
      let k = repairs_there stands_for vs rs ssrc all i x place at in
      is ∙ ap (λ s. is_some s.cap) k.2.state ∙ sym (ap has_cap k.1)

  pub cap_none : (found : Bool) → place_of ssrc vs ≡ None → found ≡ true
      → (rs : List (ℕ × RepairsRecord)) → Along (RepairsStandFor stands_for) vs rs → found ≡ has_cap (value_under ssrc rs)
  cap_none found none is rs all = is ∙ sym (ap has_cap (repairs_none stands_for vs rs ssrc all none))

module _ {W S : Type 0} (remembers : W → Heard → Type 0) (stands_for : S → Past SentPacket → Type 0) (s inside : StreamsView W S) (view : inside ≡ s)
    (ssrc to i : ℕ) (place : place_of ssrc inside.tx ≡ Some i) (capped : Bool)
    (cap : (rs : List (ℕ × RepairsRecord)) → Along (RepairsStandFor stands_for) inside.repairs rs → capped ≡ has_cap (value_under ssrc rs)) where
  mine : (r : StreamsRecord) → StandsFor remembers stands_for s r → StandsFor remembers stands_for inside r
  mine r h = subst (λ v. StandsFor remembers stands_for v r) (sym view) h

  reset_with : (rtx : Option (ℕ × ℕ)) (named : List (ℕ × TxRecord)) (x y : TxRecord) (qs : List (ℕ × RepairsView S)) → named ≡ renamed to inside.tx i
      → slice_get (values_of named) i ≡ Some x → y ≡ anew_under to (option_map (λ p. p.0) rtx) capped x
      → (r : StreamsRecord) → StandsFor remembers stands_for s r → Along (RepairsStandFor stands_for) qs (with_anew ssrc to (option_map (λ p. p.1) rtx) r.repairs)
      → StandsFor remembers stands_for (record inside { tx = set_value_at named i y; repairs = qs }) (with_reset_tx ssrc to rtx r)
  reset_with rtx named x y qs renamed at anew r h all =
      let m = mine r h in
      let f = anew_under to (option_map (λ (p : ℕ × ℕ). p.0) rtx) (has_cap (value_under ssrc r.repairs)) in
      let reset : y ≡ f x = anew ∙ ap (λ b. anew_under to (option_map (λ (p : ℕ × ℕ). p.0) rtx) b x) (cap r.repairs m.repairs) in
      let there : slice_get (values_of inside.tx) i ≡ Some x
      = ap (λ l. slice_get l i) (sym (rekeyed_value to inside.tx i)) ∙ ap (λ (l : List (ℕ × TxRecord)). slice_get (values_of l) i) (sym renamed) ∙ at in
      let tx : set_value_at named i y ≡ rekeyed ssrc to (change_at ssrc f r.tx)
      = (λ j. set_value_at (renamed j) i (reset j)) ∙ set_rekeyed to f inside.tx i x there ∙ sym (rekeyed_is ssrc to f inside.tx i place)
      ∙ ap (λ (l : List (ℕ × TxRecord)). rekeyed ssrc to (change_at ssrc f l)) m.tx in
      let found : is_some (place_of ssrc r.tx) ≡ true = ap (λ (l : List (ℕ × TxRecord)). is_some (place_of ssrc l)) (sym m.tx) ∙ ap is_some place in
      let after : StreamsRecord = record r { tx = rekeyed ssrc to (change_at ssrc f r.tx); repairs = with_anew ssrc to (option_map (λ (p : ℕ × ℕ). p.1) rtx) r.repairs } in
      subst (λ z. StandsFor remembers stands_for (record inside { tx = set_value_at named i y; repairs = qs }) z) (sym (ap (λ b. if b then after else r) found)) (record {
        threshold = m.threshold;
        known = m.known;
        rx = m.rx;
        tx = tx;
        repairs = all;
      })

  -- it has repairs from then on
  pub reset_some : (rtx first : ℕ) (named : List (ℕ × TxRecord)) (x y : TxRecord) (q : RepairsView S) (both left : List (ℕ × RepairsView S)) → named ≡ renamed to inside.tx i
      → slice_get (values_of named) i ≡ Some x → y ≡ anew_under to (Some rtx) capped x
      → ((rs : List (ℕ × RepairsRecord)) → Along (RepairsStandFor stands_for) inside.repairs rs → RepairsStandFor stands_for q (anew_from first (value_under ssrc rs)))
      → both ≡ with_value to q inside.repairs → left ≡ without_key ssrc both
      → (r : StreamsRecord) → StandsFor remembers stands_for s r
      → StandsFor remembers stands_for (record inside { tx = set_value_at named i y; repairs = left }) (with_reset_tx ssrc to (Some (rtx, first)) r)
  reset_some rtx first named x y q both left renamed at anew stands put gone r h =
      let R = RepairsStandFor stands_for in
      let m = mine r h in
      let new = anew_from first (value_under ssrc r.repairs) in
      let all = along_with_value R inside.repairs r.repairs to q new m.repairs (stands r.repairs m.repairs) in
      reset_with (Some (rtx, first)) named x y left renamed at anew r h
      (subst (λ l. Along R l (without_key ssrc (with_value to new r.repairs))) (sym (gone ∙ ap (without_key ssrc) put)) (without_along R (with_value to q inside.repairs) (with_value to new r.repairs) ssrc all))

  -- it has none
  pub reset_none : (named : List (ℕ × TxRecord)) (x y : TxRecord) (left : List (ℕ × RepairsView S)) → named ≡ renamed to inside.tx i
      → slice_get (values_of named) i ≡ Some x → y ≡ anew_under to None capped x → left ≡ without_key ssrc inside.repairs
      → (r : StreamsRecord) → StandsFor remembers stands_for s r
      → StandsFor remembers stands_for (record inside { tx = set_value_at named i y; repairs = left }) (with_reset_tx ssrc to None r)
  reset_none named x y left renamed at anew gone r h =
      let R = RepairsStandFor stands_for in
      reset_with None named x y left renamed at anew r h
      (subst (λ l. Along R l (without_key ssrc r.repairs)) (sym gone) (without_along R inside.repairs r.repairs ssrc (mine r h).repairs))

-- no stream sends under the SSRC
pub reset_absent : {W S : Type 0} (remembers : W → Heard → Type 0) (stands_for : S → Past SentPacket → Type 0) (s : StreamsView W S) (ssrc to : ℕ) (rtx : Option (ℕ × ℕ))
    → place_of ssrc s.tx ≡ None → (r : StreamsRecord) → StandsFor remembers stands_for s r → StandsFor remembers stands_for s (with_reset_tx ssrc to rtx r)
reset_absent remembers stands_for s ssrc to rtx none r h =
    let after : StreamsRecord = record r {
      tx = rekeyed ssrc to (change_at ssrc (anew_under to (option_map (λ (p : ℕ × ℕ). p.0) rtx) (has_cap (value_under ssrc r.repairs))) r.tx);
      repairs = with_anew ssrc to (option_map (λ (p : ℕ × ℕ). p.1) rtx) r.repairs;
    } in
    let lost = ap (λ (l : List (ℕ × TxRecord)). is_some (place_of ssrc l)) (sym h.tx) ∙ ap is_some none in
    subst (λ z. StandsFor remembers stands_for s z) (sym (ap (λ b. if b then after else r) lost)) h
