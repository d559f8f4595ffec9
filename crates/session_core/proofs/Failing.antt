-- What a poll leaves where it fails, by the feedback that is due.
use Rattle.std.proofs.Common.{◌≡◌, ℕ, Bool, true, false, List, [], ◌∷◌, Ok, Err, length, refl, ap}
use Rattle.std.specs.Prelude.{◌==◌, if◌then◌else◌, Result, OnOk, OnErr, is_err}
use Rattle.rtcp_wire.specs.declared.packet.Rtcp.{Rtcp}
use Rattle.session_core.specs.declared.error.RtcError.TheVariants.{Memory}
use Rattle.session_core.specs.Feedback.{AreLeft, items_kept, items_lost, due_of, some_due, exhausts}
use Rattle.session_core.specs.Draining.{PollFails, compound_kept, compound_lost}
use Rattle.session_core.specs.SessionRecord.{SessionState, SessionRecord}

-- feedback is due
pub some_is_due : (due : List Rtcp) → (due ≡ [] → ⊥) → some_due due ≡ true
some_is_due [] some = absurd (some refl)
some_is_due (x ∷ xs) some = refl

-- a compound was not sealed
pub compound_left : (now : ℕ) (r : SessionRecord) (xs : List Rtcp) → (due_of now r.state ≡ [] → ⊥) → exhausts now r.state ≡ false → AreLeft r.state.target r.state.feedback xs
    → PollFails now r (record r { state = record r.state { feedback = xs } }) Memory
compound_left now r _ some fits items_kept = compound_kept (some_is_due (due_of now r.state) some) fits
compound_left now r _ some fits items_lost = compound_lost (some_is_due (due_of now r.state) some) fits

-- at a later moment all that waits is due
pub later_due : (now : ℕ) (s : SessionState) → (now == 0) ≡ false → due_of now s ≡ s.feedback
later_due now s later = ap (λ (b : Bool). if b then [] else s.feedback) later

-- a list without length
pub empty_of : {X : Type 0} (xs : List X) → length xs ≡ 0 → xs ≡ []
empty_of [] h = refl
empty_of (x ∷ xs) h = absurd cc

-- what is not the case is false
pub not_true : (b : Bool) → (b ≡ true → ⊥) → b ≡ false
not_true true h = absurd (h refl)
not_true false h = refl

pub ok_is_not : {T E : Type 0} (x : T) (e : E) → Ok x ≡ Err e → ⊥
ok_is_not x e h = absurd cc

pub same_error : {T E : Type 0} (a b : E) → ◌≡◌ {A = Result T E} (Err a) (Err b) → a ≡ b
same_error a b h = cc

-- what holds of a result that is no error
pub on_ok_given : {T E : Type 0} (r : Result T E) {P : Type 0} → is_err r ≡ false → OnOk r P → P
on_ok_given (Ok x) not p = p
on_ok_given (Err e) not p = absurd cc

-- and of one that is
pub on_err_given : {T E : Type 0} (r : Result T E) {P : Type 0} → is_err r ≡ true → OnErr r P → P
on_err_given (Ok x) is p = absurd cc
on_err_given (Err e) is p = p

-- what holds anyway
pub on_err_any : {T E : Type 0} (r : Result T E) {P : Type 0} → P → OnErr r P
on_err_any (Ok x) p = tt
on_err_any (Err e) p = p

-- and what follows from what holds of a result that is no error
pub on_ok_then : {T E : Type 0} (r : Result T E) {P Q : Type 0} → OnOk r P → (P → Q) → OnOk r Q
on_ok_then (Ok x) p f = f p
on_ok_then (Err e) p f = tt

-- and what follows from what holds of one that is
pub on_err_map : {T E : Type 0} (r : Result T E) (P Q : Type 0) → (P → Q) → OnErr r P → OnErr r Q
on_err_map (Ok x) P Q f p = tt
on_err_map (Err e) P Q f p = f p
