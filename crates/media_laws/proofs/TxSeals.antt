-- What is sealed of an outgoing stream is the seal of a plain datagram without padding.
use Rattle.std.proofs.Common.{◌≡◌, inl, inr, ℕ, true, false, List, [], ◌∷◌, refl, sym, subst}
use Rattle.std.specs.Prelude.{filter}
use Rattle.run_model.specs.Events.{Event, wrote, ticked, called, got, sealed, sealed_items, opened, opened_items, yielded, Types, Outgoing}
use Rattle.run_model.specs.Listing.{IsIn}
use Rattle.run_model.specs.Seals.{Sealing, IsSeal}
use Rattle.run_model.specs.TxPlay.{TxRecord, Polls, drops, misses, resends, sends, Serves, rests, polls, begun_tick, is_of, IsBeside, clock_step, AreBeside, TxStep, writes, ticks, hears, passes, TxPlays, begun, step, TxEnds, at_step, in_tick}
use Rattle.media_laws.proofs.Lists.{IsIn-append, IsIn-filter}

abbrev pub IsPlainSeal : Sealing → Event → Type 0
IsPlainSeal seal (sealed ssrc n p bytes) = IsSeal seal ssrc n p bytes × (p.padded ≡ false)
IsPlainSeal seal _ = Unit {0}

polls_seal : {T : Types} {L : Outgoing} {seal : Sealing} {now : ℕ} {t u : TxRecord} {events : List Event} → Polls T L seal now t u events
    → (e : Event) → IsIn e events → IsPlainSeal seal e
polls_seal (drops is) e i = absurd i
polls_seal (misses n rest is out) e i = absurd i
polls_seal {seal = seal} (resends n rest w x pt bytes is held own type made) e (inl f) = subst (IsPlainSeal seal) (sym f) (made, refl)
polls_seal (resends n rest w x pt bytes is held own type made) e (inr i) = absurd i
polls_seal {seal = seal} (sends w rest store bytes none is caches made) e (inl f) = subst (IsPlainSeal seal) (sym f) (made, refl)
polls_seal (sends w rest store bytes none is caches made) e (inr i) = absurd i

serves_seal : {T : Types} {L : Outgoing} {seal : Sealing} {now : ℕ} {t u : TxRecord} {events : List Event} → Serves T L seal now t u events
    → (e : Event) → IsIn e events → IsPlainSeal seal e
serves_seal rests e i = absurd i
serves_seal (polls {events = events} {more = more} p d) e i = elim (IsIn-append e events more i) [ inl j ↦ polls_seal p e j | inr j ↦ serves_seal d e j ]

-- of what is sealed in a tick, also one that is cut off
tick_seals : {T : Types} {L : Outgoing} {seal : Sealing} {time : ℕ} {u : TxRecord} {share : List Event} (t : TxRecord) (new : List Event) → Serves T L seal time (begun_tick L time t) u share
    → filter (is_of L) new ≡ share → (e : Event) → IsIn e (ticked time ∷ new) → is_of L e ≡ true → IsPlainSeal seal e
tick_seals {L = L} t new serves is e (inl f) own = absurd (let not_so : false ≡ true = subst (λ e. is_of L e ≡ true) f own in cc)
tick_seals {L = L} t new serves is e (inr i) own = serves_seal serves e (subst (IsIn e) is (IsIn-filter (is_of L) e new i own))

not_of : (L : Outgoing) (e : Event) → is_of L e ≡ true → (now : ℕ) → IsBeside L now e → ⊥
not_of L (sealed ssrc n p bytes) own now b = b
not_of L (wrote time w) own now b = absurd cc
not_of L (ticked time) own now b = b
not_of L (called time) own now b = absurd cc
not_of L (got time kind bytes) own now b = absurd cc
not_of L (sealed_items index items) own now b = absurd cc
not_of L (opened ssrc n p) own now b = absurd cc
not_of L (opened_items index items) own now b = b
not_of L (yielded packet) own now b = absurd cc

none_of : (L : Outgoing) (now : ℕ) (new : List Event) → AreBeside L now new → (e : Event) → IsIn e new → is_of L e ≡ true → ⊥
none_of L now [] beside e i own = i
none_of L now (f ∷ new) beside e (inl is) own = not_of L f (subst (λ e. is_of L e ≡ true) is own) now beside.0
none_of L now (f ∷ new) beside e (inr i) own = none_of L (clock_step now f) new beside.1 e i own

step_seals : {T : Types} {L : Outgoing} {seal : Sealing} {now : ℕ} {t u : TxRecord} {new : List Event} → TxStep T L seal now t u new → (e : Event) → IsIn e new → is_of L e ≡ true → IsPlainSeal seal e
step_seals {L = L} (writes time w is new late) e (inl f) own = absurd (let not_so : false ≡ true = subst (λ e. is_of L e ≡ true) f own in cc)
step_seals (writes time w is new late) e (inr i) own = absurd i
step_seals {t = t} (ticks time new late tick) e i own = tick_seals t new tick.drain.serves tick.own e i own
step_seals {L = L} (hears time bytes index items queued late q) e (inl f) own = absurd (let not_so : false ≡ true = subst (λ e. is_of L e ≡ true) f own in cc)
step_seals {L = L} (hears time bytes index items queued late q) e (inr (inl f)) own = absurd (let not_so : false ≡ true = subst (λ e. is_of L e ≡ true) f own in cc)
step_seals (hears time bytes index items queued late q) e (inr (inr i)) own = absurd i
step_seals {L = L} {now = now} (passes new beside) e i own = absurd (none_of L now new beside e i own)

pub plays_seal : {T : Types} {L : Outgoing} {seal : Sealing} {t : TxRecord} {events : List Event} → TxPlays T L seal t events → (e : Event) → IsIn e events → is_of L e ≡ true → IsPlainSeal seal e
plays_seal begun e i own = absurd i
plays_seal (step {events = events} {new = new} h s) e i own = elim (IsIn-append e events new i) [ inl j ↦ plays_seal h e j own | inr j ↦ step_seals s e j own ]

pub ends_seal : {T : Types} {L : Outgoing} {seal : Sealing} {t : TxRecord} {events : List Event} → TxEnds T L seal t events → (e : Event) → IsIn e events → is_of L e ≡ true → IsPlainSeal seal e
ends_seal (at_step h) e i own = plays_seal h e i own
ends_seal (in_tick {t = t} {events = events} h time new at tick) e i own =
    elim (IsIn-append e events (ticked time ∷ new) i) [ inl j ↦ plays_seal h e j own | inr j ↦ tick_seals t new tick.serves tick.own e j own ]
