-- The streams of which the peer asks and tells, and what waits of them.
use Rattle.std.proofs.Common.{◌≡◌, ◌<◌, ◌+◌, ◌⊎◌, inl, inr, Bool, true, false, ℕ, zero, suc, List, [], ◌∷◌, Option, Some, None, length, slice_get, option_and_then, refl, sym, ap, ◌∙◌, arith}
use Rattle.std.specs.Prelude.{IfSome}
use Rattle.std.specs.Map.{values_of}
use Rattle.stream_core.specs.RxRecord.{RxRecord, RxView, StandsFor}
use Rattle.stream_core.specs.Tables.{place_of, value_under, Along}
use Rattle.repair_core.specs.Rounds.{Heard}
use Rattle.rtcp_items.specs.declared.report.SenderInfo.{SenderInfo}
use Rattle.session_core.specs.declared.datagram.Event.{Event}
use Rattle.session_core.specs.declared.news.KeyframeRequest.{KeyframeRequest}
use Rattle.session_core.specs.declared.news.RembRequest.{RembRequest}
use Rattle.session_core.specs.declared.news.SenderFeedback.{SenderFeedback}
use Rattle.session_core.specs.News.{NewsRecord, put, with_sender, news_count, next_news, after_news, first_of, rest_of}

-- what is under a key, by its place
pub under_some : {X : Type 0} (k : ℕ) (es : List (ℕ × X)) (i : ℕ) (x : X) → place_of k es ≡ Some i → slice_get (values_of es) i ≡ Some x → value_under k es ≡ Some x
under_some k es i x place at = ap (option_and_then (slice_get (values_of es))) place ∙ at

-- the record of a stream at its place
pub record_at : {W : Type 0} (remembers : W → Heard → Type 0) (xs : List (ℕ × RxView W)) (ys : List (ℕ × RxRecord)) (i : ℕ) (x : RxView W) → Along (StandsFor remembers) xs ys
    → slice_get (values_of xs) i ≡ Some x → (y : RxRecord) × (slice_get (values_of ys) i ≡ Some y) × (x.state ≡ y.state)
record_at remembers [] ys i x h at = absurd cc
record_at remembers (z ∷ xs) [] i x h at = absurd h
record_at {W} remembers (z ∷ xs) (y ∷ ys) zero x h at = let same : z.1 ≡ x = cc in (y.1, refl, sym (ap {A = RxView W} (λ v. v.state) same) ∙ h.0.1.state)
record_at remembers (z ∷ xs) (y ∷ ys) (suc i) x h at = record_at remembers xs ys i x h.1 at

-- a report that was put under its SSRC
pub sender_put : (info : SenderInfo) (now : ℕ) (n : NewsRecord) (rx : List (ℕ × RxRecord)) (y : RxRecord) → value_under info.ssrc rx ≡ Some y
    → record n { senders = put info.ssrc (record { mid = y.state.mid; rid = y.state.rid; received_at = now; sender_info = info }) n.senders } ≡ with_sender (value_under info.ssrc rx) info now n
sender_put info now n rx y under = ap (λ o. with_sender o info now n) (sym under)

-- where none waits none is next, and what is taken leaves fewer
none_in : (ks : List (ℕ × KeyframeRequest)) (ss : List (ℕ × SenderFeedback)) (rs : List (ℕ × RembRequest)) → length ks + (length ss + length rs) ≡ 0 → first_of ks ss rs ≡ None
none_in (k ∷ ks) ss rs none = absurd (omega arith)
none_in [] (s ∷ ss) rs none = absurd (omega arith)
none_in [] [] (r ∷ rs) none = absurd (omega arith)
none_in [] [] [] none = refl

pub none_next : (n : NewsRecord) → news_count n ≡ 0 → next_news n ≡ None
none_next n none = none_in n.keyframes n.senders n.rates none

fewer_in : (ks : List (ℕ × KeyframeRequest)) (ss : List (ℕ × SenderFeedback)) (rs : List (ℕ × RembRequest)) (e : Event) → first_of ks ss rs ≡ Some e
    → news_count (rest_of ks ss rs) < length ks + (length ss + length rs)
fewer_in (k ∷ ks) ss rs e some = omega arith
fewer_in [] (s ∷ ss) rs e some = omega arith
fewer_in [] [] (r ∷ rs) e some = omega arith
fewer_in [] [] [] e some = absurd cc

pub fewer_next : (n : NewsRecord) (e : Event) → next_news n ≡ Some e → news_count (after_news n) < news_count n
fewer_next n e some = fewer_in n.keyframes n.senders n.rates e some

pub if_fewer : (n : NewsRecord) (o : Option Event) (P : Type 0) → o ≡ next_news n → (news_count (after_news n) < news_count n → P) → IfSome o (λ e. P)
if_fewer n None P is by = tt
if_fewer n (Some e) P is by = by (fewer_next n e (sym is))

-- a test is true or false
pub is_either : (b : Bool) → (b ≡ true) ⊎ (b ≡ false)
is_either true = inl refl
is_either false = inr refl
