-- What a tick takes out of a stream: the repairs that are owed, then what waits, all of it unless the tick is cut off.
use Rattle.std.proofs.Common.{length, ◌≡◌, inl, inr, ℕ, ◌+◌, ◌≤◌, Bool, true, false, eqb, List, [], ◌∷◌, ◌++◌, map, Some, None, refl, sym, ap, ◌∙◌, subst, append_assoc, arith}
use Rattle.std.specs.Prelude.{filter}
use Rattle.std.specs.List.{fold}
use Rattle.std.proofs.lemmas.List.{append-nil}
use Rattle.std.proofs.lemmas.Bool.{eq-eqb, false≢true}
use Rattle.resend_core.specs.ResendStore.{Event as Stored, HeldAs, last_under}
use Rattle.media_model.specs.declared.entry.Write.{Write}
use Rattle.run_model.specs.Events.{Plain, Event, sealed, Types, Outgoing}
use Rattle.run_model.specs.Listing.{IsIn, Leaves, ended, takes, skips}
use Rattle.run_model.specs.Sending.{is_cached, Sendings, sending_step, cached, Kept, Carries, Carry, nothing, one, sending_of, repair_of, first_sendings, repairs}
use Rattle.run_model.specs.Seals.{Sealing}
use Rattle.run_model.specs.TxPlay.{IsApart, TxRecord, past_of, Caches, drops, misses, resends, sends, Serves, rests, polls}
use Rattle.media_laws.proofs.Lists.{tested, leaves_again, leaves_same, leaves_front, front_nothing, back_nothing}
use Rattle.media_laws.proofs.Stores.{LateFrom, held_was_sent, kept_is_held}
use Rattle.media_laws.proofs.TxTracks.{Follows, follows_send, follows_repair, same_but_resends}
use Rattle.rtp_base.specs.Window.{is_just}

abbrev pub plain_of : Write → ℕ × Plain
plain_of w = (w.number, sending_of w)

rtx_other : (L : Outgoing) (x : ℕ) → IsApart L → L.rtx ≡ Some x → eqb x L.ssrc ≡ false
rtx_other L x apart is = subst (λ o. is_just L.ssrc o ≡ false) is apart

module _ (L : Outgoing) (bytes : List ℕ) (events : List Event) where
  first-send : (w : Write) → first_sendings L.ssrc (sealed L.ssrc w.number (sending_of w) bytes ∷ events) ≡ plain_of w ∷ first_sendings L.ssrc events
  first-send w = let here : eqb L.ssrc L.ssrc ≡ true = eq-eqb L.ssrc L.ssrc refl in rw here refl

  pub repair-send : (n : ℕ) (p : Plain) → IsApart L → repairs L (sealed L.ssrc n p bytes ∷ events) ≡ repairs L events
  repair-send n p apart = rw apart refl

  first-repair : (x n : ℕ) (p : Plain) → eqb x L.ssrc ≡ false → first_sendings L.ssrc (sealed x n p bytes ∷ events) ≡ first_sendings L.ssrc events
  first-repair x n p is = rw is refl

  pub repair-repair : (x n pt : ℕ) (w : Write) → L.rtx ≡ Some x → repairs L (sealed x n (repair_of pt w) bytes ∷ events) ≡ (n, repair_of pt w) ∷ repairs L events
  repair-repair x n pt w is =
      let here : is_just x L.rtx ≡ true = subst (λ o. is_just x o ≡ true) (sym is) (eq-eqb x x refl) in
      rw here refl

step-repair : (L : Outgoing) (s : Sendings) (x n : ℕ) (p : Plain) (bytes : List ℕ) → eqb x L.ssrc ≡ false → sending_step L.ssrc s (sealed x n p bytes) ≡ s
step-repair L s x n p bytes is = rw is refl

-- the polls of a stream, from a moment within a tick on: of what waits the first ones are gone, and of the numbers to resend those
-- are neither answered nor left that need not be held
pub record Drained (T : Types) (L : Outgoing) (s : Sendings) (mains reps : List (ℕ × Plain)) (t u : TxRecord) (share : List Event) : Type 0 where
  pub follows : Follows T L (fold (sending_step L.ssrc) s share) (mains ++ first_sendings L.ssrc share) (reps ++ repairs L share) u
  pub gone : List Write
  pub waiting : s.waiting ≡ gone ++ u.queue
  pub sendings : first_sendings L.ssrc share ≡ map plain_of gone
  pub answered : List ℕ
  pub carry : Carry T (cached T L s.sent) (repairs L share) answered
  pub keeps : Leaves (λ n. (t.reading.met ≡ false) × Kept T L s.sent n) (answered ++ u.resends) t.resends

all_go : {X : Type 0} (Stays : X → Type 0) (xs : List X) → ((x : X) → Stays x → ⊥) → Leaves Stays [] xs
all_go Stays [] gone = ended
all_go Stays (x ∷ xs) gone = skips x (gone x) (all_go Stays xs gone)

-- a repair carries the write that is held
carries_held : {T : Types} (w : Write) (pt : ℕ) → T.rtx_of w.pt ≡ Some pt → Carries T (repair_of pt w) w
carries_held w pt is = record { type = is; marker = refl; time = refl; csrc = refl; payload = refl }

pub late_filter : (p : ℕ × Write → Bool) (u t : ℕ) (xs : List (ℕ × Write)) → u ≤ t → LateFrom t xs → LateFrom u (filter p xs)
late_filter p u t [] le h = tt
late_filter p u t (x ∷ xs) le h = elim (tested (p x)) [
  | inl is ↦ rw is (omega (arith, le, h.0), late_filter p x.0 x.0 xs (omega arith) h.1)
  | inr is ↦ rw is (late_filter p u x.0 xs (omega (arith, le, h.0)) h.1)
]

pub leaves_nothing : {X : Type 0} {Stays : X → Type 0} {xs ys : List X} → Leaves Stays xs ys → ys ≡ [] → xs ≡ []
leaves_nothing ended is = refl
leaves_nothing (takes x h) is = absurd cc
leaves_nothing (skips x gone h) is = absurd cc

carry_nothing : {T : Types} {sent : List (ℕ × Write)} {ps : List (ℕ × Plain)} {ns : List ℕ} → Carry T sent ps ns → ns ≡ [] → ps ≡ []
carry_nothing nothing is = refl
carry_nothing (one i n p x there at carries h) is = absurd cc

module _ {T : Types} {L : Outgoing} where
  -- a number that has to be held is not missed
  pub not_missed : {s : Sendings} {mains reps : List (ℕ × Plain)} {t : TxRecord} (n : ℕ) → Follows T L s mains reps t → HeldAs (past_of L t.store) n None → Kept T L s.sent n → ⊥
  not_missed {s = s} n h out kept = kept_is_held h.told (late_filter (λ x. is_cached T L x.1) 0 0 s.sent (omega arith) h.late) n kept out

  drained_rests : {s : Sendings} {mains reps : List (ℕ × Plain)} {t : TxRecord} → Follows T L s mains reps t → Drained T L s mains reps t t []
  drained_rests {s} {mains} {reps} {t} h = record {
    follows = subst (λ ms. Follows T L s ms (reps ++ []) t) (sym (append-nil mains)) (subst (λ rs. Follows T L s mains rs t) (sym (append-nil reps)) h);
    gone = [];
    waiting = sym h.queue;
    sendings = refl;
    answered = [];
    carry = nothing;
    keeps = leaves_same t.resends;
  }

  drained_drops : {s : Sendings} {mains reps : List (ℕ × Plain)} {t u : TxRecord} {share : List Event} → t.reading.met ≡ true
      → Drained T L s mains reps (record t { resends = [] }) u share → Drained T L s mains reps t u share
  drained_drops {s} {t = t} is d = record {
    follows = d.follows;
    gone = d.gone;
    waiting = d.waiting;
    sendings = d.sendings;
    answered = d.answered;
    carry = d.carry;
    keeps = leaves_again d.keeps (all_go (λ n. (t.reading.met ≡ false) × Kept T L s.sent n) t.resends (λ n k. false≢true (sym k.0 ∙ is)));
  }

  drained_misses : {s : Sendings} {mains reps : List (ℕ × Plain)} {t u : TxRecord} {share : List Event} (n : ℕ) (rest : List ℕ) → t.resends ≡ n ∷ rest
      → (Kept T L s.sent n → ⊥) → Drained T L s mains reps (record t { resends = rest }) u share → Drained T L s mains reps t u share
  drained_misses {s} {t = t} {u = u} n rest is gone d = record {
    follows = d.follows;
    gone = d.gone;
    waiting = d.waiting;
    sendings = d.sendings;
    answered = d.answered;
    carry = d.carry;
    keeps = subst (Leaves (λ n. (t.reading.met ≡ false) × Kept T L s.sent n) (d.answered ++ u.resends)) (sym is) (skips n (λ k. gone k.1) d.keeps);
  }

  drained_resends : (bytes : List ℕ) (log : List (ℕ × ℕ)) {s : Sendings} {mains reps : List (ℕ × Plain)} {t u : TxRecord} {share : List Event} (n : ℕ) (rest : List ℕ) (y : ℕ × Write) (x pt : ℕ) → t.resends ≡ n ∷ rest
      → IsIn y (cached T L s.sent) → y.1.number ≡ n → T.rtx_of y.1.pt ≡ Some pt → L.rtx ≡ Some x → eqb x L.ssrc ≡ false
      → Drained T L s mains (reps ++ (t.next_rtx, repair_of pt y.1) ∷ []) (record t { resends = rest; next_rtx = t.next_rtx + 1; resent = log }) u share
      → Drained T L s mains reps t u (sealed x t.next_rtx (repair_of pt y.1) bytes ∷ share)
  drained_resends bytes log {s} {mains} {reps} {t} {u} {share} n rest y x pt is there number type own other d = record {
    follows = subst (λ z. Follows T L (fold (sending_step L.ssrc) z share) (mains ++ first_sendings L.ssrc (e ∷ share)) (reps ++ repairs L (e ∷ share)) u) (sym (step-repair L s x t.next_rtx (repair_of pt y.1) bytes other))
        (subst (λ ms. Follows T L (fold (sending_step L.ssrc) s share) (mains ++ ms) (reps ++ repairs L (e ∷ share)) u) (sym no_first)
        (subst (λ rs. Follows T L (fold (sending_step L.ssrc) s share) (mains ++ first_sendings L.ssrc share) rs u) (append_assoc reps (r ∷ []) (repairs L share) ∙ ap (λ rs. reps ++ rs) (sym one_repair)) d.follows));
    gone = d.gone;
    waiting = d.waiting;
    sendings = no_first ∙ d.sendings;
    answered = n ∷ d.answered;
    carry = subst (λ ps. Carry T (cached T L s.sent) ps (n ∷ d.answered)) (sym one_repair) (one t.next_rtx n (repair_of pt y.1) y there number (carries_held y.1 pt type) d.carry);
    keeps = subst (Leaves (λ n. (t.reading.met ≡ false) × Kept T L s.sent n) (n ∷ (d.answered ++ u.resends))) (sym is) (takes n d.keeps);
  }
    where
      e : Event
      e = sealed x t.next_rtx (repair_of pt y.1) bytes

      r : ℕ × Plain
      r = (t.next_rtx, repair_of pt y.1)

      no_first : first_sendings L.ssrc (e ∷ share) ≡ first_sendings L.ssrc share
      no_first = first-repair L bytes share x t.next_rtx (repair_of pt y.1) other

      one_repair : repairs L (e ∷ share) ≡ r ∷ repairs L share
      one_repair = repair-repair L bytes share x t.next_rtx pt y.1 own

  drained_sends : (bytes : List ℕ) (log : List (ℕ × ℕ)) {s : Sendings} {mains reps : List (ℕ × Plain)} {t u : TxRecord} {share : List Event} (w : Write) (rest : List Write) (store : List (Stored Write)) → t.resends ≡ [] → s.waiting ≡ w ∷ rest
      → IsApart L → sending_step L.ssrc s (sealed L.ssrc w.number (sending_of w) bytes) ≡ record s { waiting = rest; sent = s.sent ++ (s.now, w) ∷ [] }
      → Drained T L (record s { waiting = rest; sent = s.sent ++ (s.now, w) ∷ [] }) (mains ++ plain_of w ∷ []) reps (record t { queue = rest; store = store; sent = log }) u share
      → Drained T L s mains reps t u (sealed L.ssrc w.number (sending_of w) bytes ∷ share)
  drained_sends bytes log {s} {mains} {reps} {t} {u} {share} w rest store none waits apart stepped d = record {
    follows = subst (λ z. Follows T L (fold (sending_step L.ssrc) z share) (mains ++ first_sendings L.ssrc (e ∷ share)) (reps ++ repairs L (e ∷ share)) u) (sym stepped)
        (subst (λ rs. Follows T L (fold (sending_step L.ssrc) after share) (mains ++ first_sendings L.ssrc (e ∷ share)) (reps ++ rs) u) (sym no_repair)
        (subst (λ ms. Follows T L (fold (sending_step L.ssrc) after share) ms (reps ++ repairs L share) u) (append_assoc mains (plain_of w ∷ []) (first_sendings L.ssrc share) ∙ ap (λ ms. mains ++ ms) (sym one_first)) d.follows));
    gone = w ∷ d.gone;
    waiting = waits ∙ ap (λ ws. w ∷ ws) d.waiting;
    sendings = one_first ∙ ap (λ ps. plain_of w ∷ ps) d.sendings;
    answered = [];
    carry = subst (λ ps. Carry T (cached T L s.sent) ps []) (sym (no_repair ∙ carry_nothing d.carry (front_nothing d.answered u.resends nothing_left))) nothing;
    keeps = subst (λ rs. Leaves (λ n. (t.reading.met ≡ false) × Kept T L s.sent n) rs t.resends) (sym (back_nothing d.answered u.resends nothing_left))
        (subst (Leaves (λ n. (t.reading.met ≡ false) × Kept T L s.sent n) []) (sym none) ended);
  }
    where
      e : Event
      e = sealed L.ssrc w.number (sending_of w) bytes

      after : Sendings
      after = record s { waiting = rest; sent = s.sent ++ (s.now, w) ∷ [] }

      one_first : first_sendings L.ssrc (e ∷ share) ≡ plain_of w ∷ first_sendings L.ssrc share
      one_first = first-send L bytes share w

      nothing_left : d.answered ++ u.resends ≡ []
      nothing_left = leaves_nothing d.keeps none

      no_repair : repairs L (e ∷ share) ≡ repairs L share
      no_repair = repair-send L bytes share w.number (sending_of w) apart

pub drained : {T : Types} {L : Outgoing} {seal : Sealing} {now : ℕ} {t u : TxRecord} {share : List Event}
    → Serves T L seal now t u share → IsApart L → (s : Sendings) (mains reps : List (ℕ × Plain)) → s.now ≡ now → Follows T L s mains reps t → Drained T L s mains reps t u share
drained rests apart s mains reps at h = drained_rests h
drained (polls (drops is) more) apart s mains reps at h = drained_drops is (drained more apart s mains reps at (same_but_resends [] h))
drained (polls (misses n rest is out) more) apart s mains reps at h = drained_misses n rest is (not_missed n h out) (drained more apart s mains reps at (same_but_resends rest h))
drained {T} {L} {seal} {now} (polls {t} (resends n rest w x pt bytes is held own type made) more) apart s mains reps at h =
    let from : (y : ℕ) × (last_under n t.store ≡ Some (y, w)) = (held.0, held.1) in
    let was = held_was_sent h.told n (from.0, w) from.1 in
    drained_resends bytes (t.resent ++ (now, length w.payload) ∷ []) n rest (from.0, w) x pt is was.0 was.1 type own (rtx_other L x apart own)
    (drained more apart s mains (reps ++ (t.next_rtx, repair_of pt w) ∷ []) at (follows_repair rest (t.resent ++ (now, length w.payload) ∷ []) (repair_of pt w) (from.0, w) h was.0 (carries_held w pt type)))
drained {T} {L} {seal} {now} (polls {t} (sends w rest store bytes none is caches made) more) apart s mains reps at h =
    let r = follows_send w rest store (t.sent ++ (now, length w.payload) ∷ []) bytes h is (subst (λ (m : ℕ). Caches T L m w t.store store) (sym at) caches) in
    drained_sends bytes (t.sent ++ (now, length w.payload) ∷ []) w rest store none (sym h.queue ∙ is) apart r.1 (drained more apart (record s { waiting = rest; sent = s.sent ++ (s.now, w) ∷ [] }) (mains ++ plain_of w ∷ []) reps at r.0)

-- where nothing is left, all that waited is gone, and each number that has to be held is answered
module _ {T : Types} {L : Outgoing} {s : Sendings} {mains reps : List (ℕ × Plain)} {t u : TxRecord} {share : List Event} (d : Drained T L s mains reps t u share) where
  pub all_gone : u.queue ≡ [] → d.gone ≡ s.waiting
  all_gone none = sym (d.waiting ∙ ap (λ ws. d.gone ++ ws) none ∙ append-nil d.gone)

  pub all_answered : u.resends ≡ [] → Leaves (λ n. (t.reading.met ≡ false) × Kept T L s.sent n) d.answered t.resends
  all_answered none = subst (λ ns. Leaves (λ n. (t.reading.met ≡ false) × Kept T L s.sent n) ns t.resends) (ap (λ rs. d.answered ++ rs) none ∙ append-nil d.answered) d.keeps

  -- and else some are
  pub some_answered : Leaves (λ n. ⊥) d.answered t.resends
  some_answered = leaves_front d.answered u.resends refl d.keeps
