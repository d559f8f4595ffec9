-- The record of an outgoing stream holds what is read off the events.
use Rattle.std.proofs.Common.{◌≡◌, inl, inr, ℕ, ◌+◌, ◌<◌, ◌≤◌, Bool, true, false, cond, eqb, List, [], ◌∷◌, ◌++◌, length, map, refl, sym, ap, ◌∙◌, subst, append_assoc, arith}
use Rattle.std.specs.Prelude.{not, filter}
use Rattle.std.proofs.lemmas.List.{map-append, append-nil, length-append}
use Rattle.std.proofs.lemmas.Bool.{eq-eqb, eqb-true}
use Rattle.resend_core.specs.ResendStore.{Event as Stored, pushed, evicted}
use Rattle.media_model.specs.declared.entry.Write.{Write}
use Rattle.run_model.specs.Events.{Plain, sealed, Types, Outgoing}
use Rattle.run_model.specs.Listing.{IsIn, NoRepeat}
use Rattle.run_model.specs.Sending.{number_of, is_numbered, Sendings, sending_step, cached, is_cached, latest_from, Carries, sending_of}
use Rattle.run_model.specs.Capping.{Reading}
use Rattle.run_model.specs.TxPlay.{TxRecord, Caches, ignored, stored}
use Rattle.media_laws.proofs.Lists.{IsIn-left, IsIn-append, IsIn-map, IsIn-from_map, NoRepeat-push, filter-append, filter_all, filter_none, tested}
use Rattle.media_laws.proofs.Stores.{Tells, one_more, LateFrom, late-push, latest-push}

abbrev pub numbers : List Write → List ℕ
numbers ws = map number_of ws

abbrev pub snd : ℕ × Write → Write
snd x = x.1

abbrev pub numbered : ℕ × Write → ℕ × Plain
numbered x = (x.1.number, sending_of x.1)

abbrev pub first : ℕ × Plain → ℕ
first x = x.0

-- what holds at each moment, also within a tick
pub record Follows (T : Types) (L : Outgoing) (s : Sendings) (mains reps : List (ℕ × Plain)) (t : TxRecord) : Type 0 where
  pub queue : t.queue ≡ s.waiting
  pub whole : s.writes ≡ map snd s.sent ++ s.waiting
  pub written : t.written ≡ numbers s.writes
  pub once : NoRepeat t.written
  pub told : Tells L (cached T L s.sent) t.store
  pub late : LateFrom 0 s.sent
  pub latest : latest_from 0 s.sent ≤ s.now
  pub firsts : mains ≡ map numbered s.sent
  pub next : t.next_rtx ≡ L.start + length reps
  pub low : (x : ℕ × Plain) → IsIn x reps → x.0 < t.next_rtx
  pub apart : NoRepeat (map first reps)
  pub carried : (x : ℕ × Plain) → IsIn x reps → (y : ℕ × Write) × IsIn y (cached T L s.sent) × Carries T x.1 y.1

not_numbered : (n : ℕ) (ws : List Write) → (IsIn n (numbers ws) → ⊥) → (w : Write) → IsIn w ws → is_numbered n w ≡ false
not_numbered n ws out w i = elim (tested (is_numbered n w)) [
  | inl t ↦ absurd (out (subst (λ m. IsIn m (numbers ws)) (eqb-true w.number n t) (IsIn-map number_of w ws i)))
  | inr t ↦ t
]

-- the numbers behind others in a list without repeats
no_repeat_right : {X : Type 0} (xs ys : List X) → NoRepeat (xs ++ ys) → NoRepeat ys
no_repeat_right [] ys h = h
no_repeat_right (x ∷ xs) ys h = no_repeat_right xs ys h.1

-- the first of those that wait is sent
sending_head : (m : ℕ) (s : Sendings) (w : Write) (rest : List Write) (bytes : List ℕ) → s.waiting ≡ w ∷ rest → NoRepeat (numbers (w ∷ rest))
    → sending_step m s (sealed m w.number (sending_of w) bytes) ≡ record s { waiting = rest; sent = s.sent ++ (s.now, w) ∷ [] }
sending_head m s w rest bytes is apart =
    let here : eqb m m ≡ true = eq-eqb m m refl in
    let own : eqb w.number w.number ≡ true = eq-eqb w.number w.number refl in
    let others = not_numbered w.number rest apart.0 in
    let stay : filter (λ v. not (is_numbered w.number v)) rest ≡ rest = filter_all (λ v. not (is_numbered w.number v)) rest (λ v i. ap not (others v i)) in
    let go : filter (is_numbered w.number) rest ≡ [] = filter_none (is_numbered w.number) rest others in
    rw (here, is, own, stay, go) refl

cached-push : (T : Types) (L : Outgoing) (xs : List (ℕ × Write)) (x : ℕ × Write) (b : Bool) → is_cached T L x.1 ≡ b → cached T L (xs ++ x ∷ []) ≡ cached T L xs ++ cond b (x ∷ []) []
cached-push T L xs x true is = filter-append (λ (y : ℕ × Write). is_cached T L y.1) xs (x ∷ []) ∙ ap (λ zs. cached T L xs ++ zs) (rw is refl)
cached-push T L xs x false is = filter-append (λ (y : ℕ × Write). is_cached T L y.1) xs (x ∷ []) ∙ ap (λ zs. cached T L xs ++ zs) (rw is refl)

tells_more : (T : Types) (L : Outgoing) (xs : List (ℕ × Write)) (now : ℕ) (w : Write) (old new : List (Stored Write)) → Tells L (cached T L xs) old → Caches T L now w old new
    → Tells L (cached T L (xs ++ (now, w) ∷ [])) new
tells_more T L xs now w old new told (ignored is) = subst (λ zs. Tells L zs old) (sym (cached-push T L xs (now, w) false is ∙ append-nil (cached T L xs))) told
tells_more T L xs now w old new told (stored is held must) =
    subst (λ zs. Tells L zs (old ++ pushed w.number now w held ∷ evicted now ∷ [])) (sym (cached-push T L xs (now, w) true is)) (one_more told now w held must)

-- what is cached stays
cached_stays : (T : Types) (L : Outgoing) (xs : List (ℕ × Write)) (x y : ℕ × Write) → IsIn y (cached T L xs) → IsIn y (cached T L (xs ++ x ∷ []))
cached_stays T L xs x y i =
    subst (IsIn y) (sym (filter-append (λ (z : ℕ × Write). is_cached T L z.1) xs (x ∷ []))) (IsIn-left y (cached T L xs) (cached T L (x ∷ [])) i)

-- a first sending
pub follows_send : {T : Types} {L : Outgoing} {s : Sendings} {mains reps : List (ℕ × Plain)} {t : TxRecord} (w : Write) (rest : List Write) (store : List (Stored Write)) (log : List (ℕ × ℕ)) (bytes : List ℕ)
    → Follows T L s mains reps t → t.queue ≡ w ∷ rest → Caches T L s.now w t.store store
    → Follows T L (record s { waiting = rest; sent = s.sent ++ (s.now, w) ∷ [] }) (mains ++ numbered (s.now, w) ∷ []) reps (record t { queue = rest; store = store; sent = log })
    × (sending_step L.ssrc s (sealed L.ssrc w.number (sending_of w) bytes) ≡ record s { waiting = rest; sent = s.sent ++ (s.now, w) ∷ [] })
follows_send {T} {L} {s} {mains} {reps} {t} w rest store log bytes h is caches = (after, sending_head L.ssrc s w rest bytes waits rest_apart)
  where
    waits : s.waiting ≡ w ∷ rest
    waits = sym h.queue ∙ is

    now_written : t.written ≡ numbers (map snd s.sent) ++ numbers (w ∷ rest)
    now_written = h.written ∙ ap numbers (h.whole ∙ ap (λ ws. map snd s.sent ++ ws) waits) ∙ map-append number_of (map snd s.sent) (w ∷ rest)

    rest_apart : NoRepeat (numbers (w ∷ rest))
    rest_apart = no_repeat_right (numbers (map snd s.sent)) (numbers (w ∷ rest)) (subst NoRepeat now_written h.once)

    moved : map snd s.sent ++ w ∷ rest ≡ map snd (s.sent ++ (s.now, w) ∷ []) ++ rest
    moved = sym (append_assoc (map snd s.sent) (w ∷ []) rest) ∙ ap (λ ws. ws ++ rest) (sym (map-append snd s.sent ((s.now, w) ∷ [])))

    after : Follows T L (record s { waiting = rest; sent = s.sent ++ (s.now, w) ∷ [] }) (mains ++ numbered (s.now, w) ∷ []) reps (record t { queue = rest; store = store; sent = log })
    after = record {
      queue = refl;
      whole = h.whole ∙ ap (λ ws. map snd s.sent ++ ws) waits ∙ moved;
      written = h.written;
      once = h.once;
      told = tells_more T L s.sent s.now w t.store store h.told caches;
      late = late-push 0 s.sent (s.now, w) h.late h.latest;
      latest = let e = latest-push 0 s.sent (s.now, w) in omega (arith, e);
      firsts = ap (λ ps. ps ++ numbered (s.now, w) ∷ []) h.firsts ∙ sym (map-append numbered s.sent ((s.now, w) ∷ []));
      next = h.next;
      low = h.low;
      apart = h.apart;
      carried = λ x i. let r = h.carried x i in (r.0, cached_stays T L s.sent (s.now, w) r.0 r.1, r.2);
    }

-- a repair
pub follows_repair : {T : Types} {L : Outgoing} {s : Sendings} {mains reps : List (ℕ × Plain)} {t : TxRecord} (rest : List ℕ) (log : List (ℕ × ℕ)) (p : Plain) (y : ℕ × Write)
    → Follows T L s mains reps t → IsIn y (cached T L s.sent) → Carries T p y.1
    → Follows T L s mains (reps ++ (t.next_rtx, p) ∷ []) (record t { resends = rest; next_rtx = t.next_rtx + 1; resent = log })
follows_repair {T} {L} {s} {mains} {reps} {t} rest log p y h there carries = record {
  queue = h.queue;
  whole = h.whole;
  written = h.written;
  once = h.once;
  told = h.told;
  late = h.late;
  latest = h.latest;
  firsts = h.firsts;
  next = let e = length-append reps ((t.next_rtx, p) ∷ []) in let f = h.next in omega (arith, e, f);
  low = λ x i. elim (IsIn-append x reps ((t.next_rtx, p) ∷ []) i) [
    | inl j ↦ let l = h.low x j in omega (arith, l)
    | inr j ↦ elim j [ inl e ↦ subst (λ (z : ℕ × Plain). z.0 < t.next_rtx + 1) (sym e) (omega arith) | inr k ↦ absurd k ]
  ];
  apart = subst NoRepeat (sym (map-append first reps ((t.next_rtx, p) ∷ []))) (NoRepeat-push (map first reps) t.next_rtx h.apart new);
  carried = λ x i. elim (IsIn-append x reps ((t.next_rtx, p) ∷ []) i) [
    | inl j ↦ h.carried x j
    | inr j ↦ elim j [ inl e ↦ (y, there, subst (λ (z : ℕ × Plain). Carries T z.1 y.1) (sym e) carries) | inr k ↦ absurd k ]
  ];
}
  where
    new : IsIn t.next_rtx (map first reps) → ⊥
    new i = let r = IsIn-from_map first t.next_rtx reps i in let l = h.low r.0 r.1 in let e = r.2 in omega (arith, l, e)

pub same_but_resends : {T : Types} {L : Outgoing} {s : Sendings} {mains reps : List (ℕ × Plain)} {t : TxRecord} (rest : List ℕ) → Follows T L s mains reps t → Follows T L s mains reps (record t { resends = rest })
same_but_resends rest h = record {
  queue = h.queue;
  whole = h.whole;
  written = h.written;
  once = h.once;
  told = h.told;
  late = h.late;
  latest = h.latest;
  firsts = h.firsts;
  next = h.next;
  low = h.low;
  apart = h.apart;
  carried = h.carried;
}

pub same_but_reading : {T : Types} {L : Outgoing} {s : Sendings} {mains reps : List (ℕ × Plain)} {t : TxRecord} (r : Reading) → Follows T L s mains reps t → Follows T L s mains reps (record t { reading = r })
same_but_reading r h = record {
  queue = h.queue;
  whole = h.whole;
  written = h.written;
  once = h.once;
  told = h.told;
  late = h.late;
  latest = h.latest;
  firsts = h.firsts;
  next = h.next;
  low = h.low;
  apart = h.apart;
  carried = h.carried;
}
