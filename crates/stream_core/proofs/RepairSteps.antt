-- What streams send again, as a table of which one value changes.
use Rattle.std.proofs.Common.{◌≡◌, ℕ, zero, suc, ◌+◌, Bool, true, false, List, [], ◌∷◌, ◌++◌, Option, Some, None, Ok, Err, is_some, not, length, take, slice_get, nat_eq, position, refl, sym, ap, subst, ◌∙◌, arith, option_and_then}
use Rattle.std.specs.Prelude.{◌==◌, Result, OnErr, if◌then◌else◌}
use Rattle.std.specs.Map.{keys_of, values_of}
use Rattle.std.specs.Option.{option_map_or}
use Rattle.indexmap.specs.IndexMap.{set_value_at}
use Rattle.resend_core.specs.ResendStore.{Past, last_position}
use Rattle.rtx_core.specs.Resends.{ResendView, Asks, asked_for, numbers_of, created}
use Rattle.rtx_core.specs.declared.resend.Resend.{Resend}
use Rattle.rtp_base.specs.declared.nack_entry.NackEntry.{NackEntry}
use Rattle.repair_core.specs.Rounds.{Heard}
use Rattle.stream_core.specs.Repairing.{SentPacket, RepairsView, RepairsRecord, RepairsStandFor, has_asked, state_in, size_of_sent}
use Rattle.stream_core.specs.StreamsRecord.{StreamsView, StreamsRecord, StandsFor, Asked, no_repairs, asked, with_stream_tx, is_asked, all_waiting, all_asked}
use Rattle.stream_core.specs.Tables.{place_of, value_under, with_new, with_value, change_place, change_at, Along}
use Rattle.stream_core.specs.TxRecord.{TxRecord, declared}
use Rattle.stream_core.proofs.TableSteps.{with_new_there, with_new_absent, along_there, along_new}
use Rattle.stream_core.proofs.Alongside.{place_along, value_along, change_at_along, change_at_none, along_more}

-- a value is written over
pub set_const : {X : Type 0} (es : List (ℕ × X)) (i : ℕ) (x y : X) → slice_get (values_of es) i ≡ Some x → set_value_at es i y ≡ change_place (λ old. y) es i
set_const [] i x y at = refl
set_const (e ∷ es) zero x y at = refl
set_const (e ∷ es) (suc i) x y at = ap (λ l. e ∷ l) (set_const es i x y at)

-- the places before it stay as they are
pub take_set : {X : Type 0} (es : List (ℕ × X)) (i : ℕ) (x : X) → take i (set_value_at es i x) ≡ take i es
take_set [] zero x = refl
take_set [] (suc i) x = refl
take_set (e ∷ es) zero x = refl
take_set (e ∷ es) (suc i) x = ap (λ l. e ∷ l) (take_set es i x)

keys_set : {X : Type 0} (es : List (ℕ × X)) (i : ℕ) (x : X) → keys_of (set_value_at es i x) ≡ keys_of es
keys_set [] i x = refl
keys_set (e ∷ es) zero x = refl
keys_set (e ∷ es) (suc i) x = ap (λ l. e.0 ∷ l) (keys_set es i x)

-- how much waits, and how much is asked for, of all streams but one and of that
pub waiting_set : (es : List (ℕ × TxRecord)) (i : ℕ) (x y : TxRecord) → slice_get (values_of es) i ≡ Some x
    → all_waiting (set_value_at es i y) + length x.queue ≡ all_waiting es + length y.queue
waiting_set [] i x y at = absurd cc
waiting_set (e ∷ es) zero x y at = let same : length x.queue ≡ length e.1.queue = cc in omega (arith, same)
waiting_set (e ∷ es) (suc i) x y at = let rest = waiting_set es i x y at in omega (arith, rest)

pub asked_set : {C : Type 0} (es : List (ℕ × ResendView C)) (i : ℕ) (x y : ResendView C) → slice_get (values_of es) i ≡ Some x
    → all_asked (set_value_at es i y) + length x.state.resends ≡ all_asked es + length y.state.resends
asked_set [] i x y at = absurd cc
asked_set (e ∷ es) zero x y at = let same : length x.state.resends ≡ length e.1.state.resends = cc in omega (arith, same)
asked_set (e ∷ es) (suc i) x y at = let rest = asked_set es i x y at in omega (arith, rest)

-- where something is asked for after a value changed, something was before
module _ {C : Type 0} (x y : ResendView C) (fewer : has_asked (Some y.state) ≡ true → has_asked (Some x.state) ≡ true) where
  asked_at : (es : List (ℕ × ResendView C)) (i j : ℕ) → slice_get (values_of es) i ≡ Some x
      → has_asked (state_in (slice_get (values_of (set_value_at es i y)) j)) ≡ true → has_asked (state_in (slice_get (values_of es) j)) ≡ true
  asked_at [] i j at h = h
  asked_at (e ∷ es) zero zero at h = let same : e.1 ≡ x = cc in ap (λ (v : ResendView C). has_asked (Some v.state)) same ∙ fewer h
  asked_at (e ∷ es) zero (suc j) at h = h
  asked_at (e ∷ es) (suc i) zero at h = h
  asked_at (e ∷ es) (suc i) (suc j) at h = asked_at es i j at h

  asked_in : (es : List (ℕ × ResendView C)) (i : ℕ) (o : Option ℕ) → slice_get (values_of es) i ≡ Some x
      → has_asked (state_in (option_and_then (slice_get (values_of (set_value_at es i y))) o)) ≡ true → has_asked (state_in (option_and_then (slice_get (values_of es)) o)) ≡ true
  asked_in es i None at h = h
  asked_in es i (Some j) at h = asked_at es i j at h

  asked_of : (es : List (ℕ × ResendView C)) (i : ℕ) (r : TxRecord) (o : Option ℕ) → slice_get (values_of es) i ≡ Some x
      → has_asked (state_in (option_and_then (λ rtx. value_under r.ssrc (set_value_at es i y)) o)) ≡ true → has_asked (state_in (option_and_then (λ rtx. value_under r.ssrc es) o)) ≡ true
  asked_of es i r None at h = h
  asked_of es i r (Some rtx) at h =
      asked_in es i (place_of r.ssrc es) at
      (sym (ap (λ ks. has_asked (state_in (option_and_then (slice_get (values_of (set_value_at es i y))) (position (nat_eq r.ssrc) ks)))) (keys_set es i y)) ∙ h)

  pub asked_before : (es : List (ℕ × ResendView C)) (i : ℕ) (r : TxRecord) → slice_get (values_of es) i ≡ Some x
      → is_asked (set_value_at es i y) r ≡ true → is_asked es r ≡ true
  asked_before es i r at h = asked_of es i r r.rtx at h

module _ {S : Type 0} (stands_for : S → Past SentPacket → Type 0) (vs : List (ℕ × RepairsView S)) (rs : List (ℕ × RepairsRecord)) (ssrc : ℕ) (all : Along (RepairsStandFor stands_for) vs rs) where
  -- what a stream sends again stands for its record
  pub repairs_there : (i : ℕ) (x : RepairsView S) → place_of ssrc vs ≡ Some i → slice_get (values_of vs) i ≡ Some x
      → (q : RepairsRecord) × (value_under ssrc rs ≡ Some q) × RepairsStandFor stands_for x q
  repairs_there i x place at =
      let q = value_along (RepairsStandFor stands_for) vs rs i x all at in
      (q.0, ap (option_and_then (slice_get (values_of rs))) (sym (place_along (RepairsStandFor stands_for) vs rs ssrc all) ∙ place) ∙ q.1, q.2)

  pub repairs_none : place_of ssrc vs ≡ None → value_under ssrc rs ≡ None
  repairs_none none = ap (option_and_then (slice_get (values_of rs))) (sym (place_along (RepairsStandFor stands_for) vs rs ssrc all) ∙ none)

  -- and so it does after it changed
  pub repairs_set : (i : ℕ) (x y : RepairsView S) (q : RepairsRecord) → place_of ssrc vs ≡ Some i → slice_get (values_of vs) i ≡ Some x → RepairsStandFor stands_for y q
      → Along (RepairsStandFor stands_for) (set_value_at vs i y) (change_at ssrc (λ old. q) rs)
  repairs_set i x y q place at stands = change_at_along (RepairsStandFor stands_for) vs rs ssrc i x y (λ old. q) all place at (λ old h. stands)

module _ {W S : Type 0} (remembers : W → Heard → Type 0) (stands_for : S → Past SentPacket → Type 0) (s inside : StreamsView W S) (view : inside ≡ s) where
  mine : (r : StreamsRecord) → StandsFor remembers stands_for s r → StandsFor remembers stands_for inside r
  mine r h = subst (λ v. StandsFor remembers stands_for v r) (sym view) h

  module _ (ssrc i : ℕ) (x : RepairsView S) (place : place_of ssrc inside.repairs ≡ Some i) (at : slice_get (values_of inside.repairs) i ≡ Some x) where
    -- what the stream of an SSRC sends again changes
    pub repairs_changed : (y : RepairsView S) (f : RepairsRecord → RepairsRecord) → ((q : RepairsRecord) → RepairsStandFor stands_for x q → RepairsStandFor stands_for y (f q))
        → (r : StreamsRecord) → StandsFor remembers stands_for s r
        → StandsFor remembers stands_for (record inside { repairs = set_value_at inside.repairs i y }) (record r { repairs = change_at ssrc f r.repairs })
    repairs_changed y f step r h =
        let m = mine r h in
        record {
          threshold = m.threshold;
          known = m.known;
          rx = m.rx;
          tx = m.tx;
          repairs = change_at_along (RepairsStandFor stands_for) inside.repairs r.repairs ssrc i x y f m.repairs place at step;
        }

    pub nack_heard : (y : RepairsView S) (now : ℕ) (entries : List NackEntry)
        → ((q : RepairsRecord) → RepairsStandFor stands_for x q → (more : List Resend) × Asks size_of_sent now q.cache (numbers_of (last_position q.cache.events) entries) more
        × RepairsStandFor stands_for y (record q { state = asked_for more q.state }))
        → (r : StreamsRecord) → StandsFor remembers stands_for s r
        → (after : List (ℕ × RepairsRecord)) × Asked now ssrc entries r.repairs after
        × StandsFor remembers stands_for (record inside { repairs = set_value_at inside.repairs i y }) (record r { repairs = after })
    nack_heard y now entries step r h =
        let q = repairs_there stands_for inside.repairs r.repairs ssrc (mine r h).repairs i x place at in
        let k = step q.0 q.2 in
        let to : RepairsRecord = record q.0 { state = asked_for k.0 q.0.state } in
        (change_at ssrc (λ old. to) r.repairs, asked q.0 k.0 q.1 k.1, repairs_changed y (λ old. to) (λ old stands. k.2) r h)

  -- the stream of an SSRC has no repairs
  pub nack_lost : (ssrc now : ℕ) (entries : List NackEntry) → place_of ssrc inside.repairs ≡ None → (r : StreamsRecord) → StandsFor remembers stands_for s r
      → (after : List (ℕ × RepairsRecord)) × Asked now ssrc entries r.repairs after × StandsFor remembers stands_for s (record r { repairs = after })
  nack_lost ssrc now entries none r h = (r.repairs, no_repairs (repairs_none stands_for inside.repairs r.repairs ssrc (mine r h).repairs none), h)

  pub nothing_changed : (ssrc : ℕ) (f : RepairsRecord → RepairsRecord) → place_of ssrc inside.repairs ≡ None → (r : StreamsRecord) → StandsFor remembers stands_for s r
      → StandsFor remembers stands_for s (record r { repairs = change_at ssrc f r.repairs })
  nothing_changed ssrc f none r h = record {
    threshold = h.threshold;
    known = h.known;
    rx = h.rx;
    tx = h.tx;
    repairs = change_at_none (RepairsStandFor stands_for) s.repairs r.repairs ssrc f h.repairs (ap (λ (v : StreamsView W S). place_of ssrc v.repairs) (sym view) ∙ none);
  }

-- what holds, holds at an error
pub on_err : {T E : Type 0} (r : Result T E) (P : Type 0) → P → OnErr r P
on_err (Ok x) P p = tt
on_err (Err e) P p = p

-- whether something is asked for of a stream that has repairs
pub asked_there : {C : Type 0} (qs : List (ℕ × ResendView C)) (x : TxRecord) (rtx i : ℕ) (v : ResendView C) (empty : Bool) → x.rtx ≡ Some rtx → place_of x.ssrc qs ≡ Some i
    → slice_get (values_of qs) i ≡ Some v → empty ≡ (length v.state.resends == 0) → not empty ≡ is_asked qs x
asked_there qs x rtx i v empty has place at is =
    ap not is
    ∙ sym (ap (λ o. has_asked (state_in (option_and_then (λ rtx. value_under x.ssrc qs) o))) has
    ∙ ap (λ o. has_asked (state_in (option_and_then (slice_get (values_of qs)) o))) place
    ∙ ap (λ o. has_asked (state_in o)) at)

-- a value is new in both tables, or in none
pub along_with_new : {A B : Type 0} (R : A → B → Type 0) (xs : List (ℕ × A)) (ys : List (ℕ × B)) (k : ℕ) (x : A) (y : B) → Along R xs ys → R x y → Along R (with_new k x xs) (with_new k y ys)
along_with_new R xs ys k x y h r = by (is_some (place_of k xs)) refl
  where
    by : (b : Bool) → is_some (place_of k xs) ≡ b → Along R (with_new k x xs) (with_new k y ys)
    by true e = subst (λ l. Along R l (with_new k y ys)) (sym (with_new_there k x xs e)) (along_there R xs ys k y h e)
    by false e = subst (λ l. Along R l (with_new k y ys)) (sym (with_new_absent k x xs e)) (along_new R xs ys k x y h r e)

-- a value is put under a key of both tables
changed_both : {A B : Type 0} (R : A → B → Type 0) (xs : List (ℕ × A)) (ys : List (ℕ × B)) (i : ℕ) (x : A) (y : B) → Along R xs ys → R x y
    → Along R (change_place (λ old. x) xs i) (change_place (λ old. y) ys i)
changed_both R [] [] i x y h r = h
changed_both R [] (b ∷ ys) i x y h r = absurd h
changed_both R (a ∷ xs) [] i x y h r = absurd h
changed_both R (a ∷ xs) (b ∷ ys) zero x y h r = ((h.0.0, r), h.1)
changed_both R (a ∷ xs) (b ∷ ys) (suc i) x y h r = (h.0, changed_both R xs ys i x y h.1 r)

pub along_with_value : {A B : Type 0} (R : A → B → Type 0) (xs : List (ℕ × A)) (ys : List (ℕ × B)) (k : ℕ) (x : A) (y : B) → Along R xs ys → R x y → Along R (with_value k x xs) (with_value k y ys)
along_with_value R xs ys k x y h r =
    subst (λ o. Along R (with_value k x xs) (option_map_or (change_place (λ old. y) ys) o (ys ++ (k, y) ∷ []))) (place_along R xs ys k h) (by (place_of k xs))
  where
    by : (o : Option ℕ) → Along R (option_map_or (change_place (λ old. x) xs) o (xs ++ (k, x) ∷ [])) (option_map_or (change_place (λ old. y) ys) o (ys ++ (k, y) ∷ []))
    by None = along_more R xs ys k x y h r
    by (Some i) = changed_both R xs ys i x y h r

-- a value that a key has is written over
pub with_value_there : {X : Type 0} (k i : ℕ) (x old : X) (es : List (ℕ × X)) → place_of k es ≡ Some i → slice_get (values_of es) i ≡ Some old → set_value_at es i x ≡ with_value k x es
with_value_there k i x old es place at =
    set_const es i old x at ∙ sym (ap (λ o. option_map_or (change_place (λ was. x) es) o (es ++ (k, x) ∷ [])) place)

-- a stream with repairs is declared
pub tx_new : {W S : Type 0} (remembers : W → Heard → Type 0) (stands_for : S → Past SentPacket → Type 0) (s inside : StreamsView W S) → inside ≡ s
    → (ssrc : ℕ) (rtx : ℕ × ℕ) (mid : List ℕ) (rid : Option (List ℕ)) (q : RepairsView S) (tx : List (ℕ × TxRecord)) (repairs : List (ℕ × RepairsView S))
    → is_some (place_of ssrc inside.tx) ≡ false → RepairsStandFor stands_for q (created rtx.1) → tx ≡ inside.tx ++ (ssrc, declared ssrc (Some rtx.0) mid rid) ∷ []
    → repairs ≡ with_new ssrc q inside.repairs
    → (r : StreamsRecord) → StandsFor remembers stands_for s r
    → StandsFor remembers stands_for (record inside { tx = tx; repairs = repairs }) (with_stream_tx ssrc (Some rtx) mid rid r)
tx_new remembers stands_for s inside view ssrc rtx mid rid q tx repairs absent stands put queued r h =
    let m = subst (λ v. StandsFor remembers stands_for v r) (sym view) h in
    let new : TxRecord = declared ssrc (Some rtx.0) mid rid in
    let none : is_some (place_of ssrc r.tx) ≡ false = ap (λ (l : List (ℕ × TxRecord)). is_some (place_of ssrc l)) (sym m.tx) ∙ absent in
    let to : StreamsRecord = record r { tx = with_new ssrc new r.tx; repairs = with_new ssrc (created rtx.1) r.repairs } in
    subst (λ x. StandsFor remembers stands_for (record inside { tx = tx; repairs = repairs }) x) (sym (ap (λ b. if b then r else to) none)) (record {
      threshold = m.threshold;
      known = m.known;
      rx = m.rx;
      tx = put ∙ ap (λ (l : List (ℕ × TxRecord)). l ++ (ssrc, new) ∷ []) m.tx ∙ sym (with_new_absent ssrc new r.tx none);
      repairs = subst (λ l. Along (RepairsStandFor stands_for) l (with_new ssrc (created rtx.1) r.repairs)) (sym queued)
          (along_with_new (RepairsStandFor stands_for) inside.repairs r.repairs ssrc q (created rtx.1) m.repairs stands);
    })
