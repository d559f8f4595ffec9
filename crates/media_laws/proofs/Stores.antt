-- What a store holds that was told of the packets that were sent.
use Rattle.std.proofs.Common.{◌≡◌, ◌⊎◌, inl, inr, ℕ, ◌+◌, ◌<◌, ◌≤◌, Bool, true, false, cond, eqb, max, List, [], ◌∷◌, ◌++◌, Option, Some, None, refl, sym, ap, ◌∙◌, subst, append_assoc, arith}
use Rattle.std.specs.Prelude.{min, nat_le}
use Rattle.std.proofs.lemmas.Bool.{false≢true, leb-true, leb-false}
use Rattle.std.proofs.lemmas.Option.{same_Some}
use Rattle.std.proofs.lemmas.Bool.Decides.{nat_tests}
use Rattle.resend_core.specs.ResendStore.{Event as Stored, pushed, evicted, latter, greatest_by, last_by, stored_under, last_under, stored_at, last_position, stored_position, greatest_stored, after_pushed, next_position, evicted_at, latest_eviction, MustStore, MayGo, HeldAs}
use Rattle.media_model.specs.declared.entry.Write.{Write}
use Rattle.run_model.specs.Events.{Types, Outgoing}
use Rattle.run_model.specs.Listing.{IsIn}
use Rattle.run_model.specs.Sending.{cached, RiseFrom, next_from, latest_from, last_number, Kept, IsFromGreatest, IsLast}
use Rattle.run_model.specs.TxPlay.{past_of}
use Rattle.media_laws.proofs.Lists.{IsIn-append, IsIn-left, IsIn-right}

greatest_by-push : {T : Type 0} (f : Stored T → ℕ) (es : List (Stored T)) (e : Stored T) → greatest_by f (es ++ e ∷ []) ≡ max (greatest_by f es) (f e)
greatest_by-push f [] e = omega arith
greatest_by-push f (x ∷ es) e = omega (arith, greatest_by-push f es e)

latter_none : {A : Type 0} (o : Option A) → latter None o ≡ o
latter_none None = refl
latter_none (Some x) = refl

latter_assoc : {A : Type 0} (a b c : Option A) → latter a (latter b c) ≡ latter (latter a b) c
latter_assoc a b None = refl
latter_assoc a b (Some x) = refl

last_by-push : {T A : Type 0} (f : Stored T → Option A) (es : List (Stored T)) (e : Stored T) → last_by f (es ++ e ∷ []) ≡ latter (last_by f es) (f e)
last_by-push f [] e = sym (latter_none (f e))
last_by-push {T} {A} f (x ∷ es) e = ap (λ (o : Option A). latter (f x) o) (last_by-push f es e) ∙ latter_assoc (f x) (last_by f es) (f e)

-- a push and an eviction behind it
abbrev pub two_more : List (Stored Write) → ℕ → Write → Bool → List (Stored Write)
two_more es t w held = es ++ pushed w.number t w held ∷ evicted t ∷ []

two-split : (es : List (Stored Write)) (t : ℕ) (w : Write) (held : Bool) → two_more es t w held ≡ (es ++ pushed w.number t w held ∷ []) ++ evicted t ∷ []
two-split es t w held = sym (append_assoc es (pushed w.number t w held ∷ []) (evicted t ∷ []))

greatest-two : (f : Stored Write → ℕ) (es : List (Stored Write)) (t : ℕ) (w : Write) (held : Bool)
    → greatest_by f (two_more es t w held) ≡ max (max (greatest_by f es) (f (pushed w.number t w held))) (f (evicted t))
greatest-two f es t w held =
    ap (greatest_by f) (two-split es t w held) ∙ greatest_by-push f (es ++ pushed w.number t w held ∷ []) (evicted t)
    ∙ ap (λ (n : ℕ). max n (f (evicted t))) (greatest_by-push f es (pushed w.number t w held))

last-two : {A : Type 0} (f : Stored Write → Option A) (es : List (Stored Write)) (t : ℕ) (w : Write) (held : Bool)
    → last_by f (two_more es t w held) ≡ latter (latter (last_by f es) (f (pushed w.number t w held))) (f (evicted t))
last-two {A} f es t w held =
    ap (last_by f) (two-split es t w held) ∙ last_by-push f (es ++ pushed w.number t w held ∷ []) (evicted t)
    ∙ ap (λ (o : Option A). latter o (f (evicted t))) (last_by-push f es (pushed w.number t w held))

-- what a store was told of these packets, each at its moment: a push, which was stored where it had to be, and an eviction
pub data Tells (L : Outgoing) : List (ℕ × Write) → List (Stored Write) → Type 0 where
  nothing : Tells L [] []
  one_more : {xs : List (ℕ × Write)} {es : List (Stored Write)} → Tells L xs es → (t : ℕ) (w : Write) (held : Bool) → (MustStore (past_of L es) w.number t → held ≡ true)
      → Tells L (xs ++ (t, w) ∷ []) (two_more es t w held)

-- what is held was sent
abbrev pub Held : List (ℕ × Write) → ℕ → ℕ × Write → Type 0
Held xs n x = IsIn x xs × (x.1.number ≡ n)

held_push : (n t : ℕ) (w : Write) (held : Bool) (o : Option (ℕ × Write)) (xs : List (ℕ × Write)) → ((x : ℕ × Write) → o ≡ Some x → Held xs n x)
    → (x : ℕ × Write) → latter o (stored_under n (pushed w.number t w held)) ≡ Some x → Held (xs ++ (t, w) ∷ []) n x
held_push n t w false o xs old x h = let r = old x h in (IsIn-left x xs ((t, w) ∷ []) r.0, r.1)
held_push n t w true o xs old x h = pick (eqb w.number n) refl h where
  pick : (b : Bool) → eqb w.number n ≡ b → latter o (cond b (Some (t, w)) None) ≡ Some x → Held (xs ++ (t, w) ∷ []) n x
  pick false is k = let r = old x k in (IsIn-left x xs ((t, w) ∷ []) r.0, r.1)
  pick true is k =
      let same : ◌≡◌ {A = ℕ × Write} (t, w) x = cc in
      let at : w.number ≡ n = grind (arith, nat_tests) in
      (IsIn-right x xs ((t, w) ∷ []) (inl (sym same)), subst (λ (y : ℕ × Write). y.1.number ≡ n) same at)

pub held_was_sent : {L : Outgoing} {xs : List (ℕ × Write)} {es : List (Stored Write)} → Tells L xs es → (n : ℕ) (x : ℕ × Write) → last_under n es ≡ Some x → Held xs n x
held_was_sent nothing n x h = absurd (let not_so : None ≡ Some x = h in cc)
held_was_sent (one_more {xs} {es} told t w held must) n x h =
    held_push n t w held (last_under n es) xs (held_was_sent told n) x (sym (last-two (stored_under n) es t w held) ∙ h)

-- where numbers rise and moments do not fall, all is stored

abbrev pub LateFrom : ℕ → List (ℕ × Write) → Type 0
LateFrom t [] = Unit {0}
LateFrom t (x ∷ xs) = (t ≤ x.0) × LateFrom x.0 xs

pub rise-push : (low : ℕ) (xs : List (ℕ × Write)) (x : ℕ × Write) → RiseFrom low (xs ++ x ∷ []) → RiseFrom low xs × (next_from low xs ≤ x.1.number)
rise-push low [] x h = (tt, h.0)
rise-push low (y ∷ xs) x h = let r = rise-push (y.1.number + 1) xs x h.1 in ((h.0, r.0), r.1)

pub late-push : (t : ℕ) (xs : List (ℕ × Write)) (x : ℕ × Write) → LateFrom t xs → latest_from t xs ≤ x.0 → LateFrom t (xs ++ x ∷ [])
late-push t [] x h k = (k, tt)
late-push t (y ∷ xs) x h k = (h.0, late-push y.0 xs x h.1 k)

pub late-front : (t : ℕ) (xs : List (ℕ × Write)) (x : ℕ × Write) → LateFrom t (xs ++ x ∷ []) → LateFrom t xs × (latest_from t xs ≤ x.0)
late-front t [] x h = (tt, h.0)
late-front t (y ∷ xs) x h = let r = late-front y.0 xs x h.1 in ((h.0, r.0), r.1)

pub next-push : (low : ℕ) (xs : List (ℕ × Write)) (x : ℕ × Write) → next_from low (xs ++ x ∷ []) ≡ x.1.number + 1
next-push low [] x = refl
next-push low (y ∷ xs) x = next-push (y.1.number + 1) xs x

pub latest-push : (t : ℕ) (xs : List (ℕ × Write)) (x : ℕ × Write) → latest_from t (xs ++ x ∷ []) ≡ x.0
latest-push t [] x = refl
latest-push t (y ∷ xs) x = latest-push y.0 xs x

below_next : (low : ℕ) (xs : List (ℕ × Write)) → RiseFrom low xs → (low ≤ next_from low xs) × ((x : ℕ × Write) → IsIn x xs → x.1.number < next_from low xs)
below_next low [] h = (omega arith, λ x i. absurd i)
below_next low (y ∷ xs) h =
    let r = below_next (y.1.number + 1) xs h.1 in
    (omega (arith, r.0, h.0), λ x i. elim i [ inl e ↦ less x e r.0 | inr j ↦ r.1 x j ])
  where
    less : (x : ℕ × Write) → x ≡ y → y.1.number + 1 ≤ next_from (y.1.number + 1) xs → x.1.number < next_from (y.1.number + 1) xs
    less x e h = rw e (omega (arith, h))

-- all that was told is held
record AllHeld (xs : List (ℕ × Write)) (es : List (Stored Write)) : Type 0 where
  pub next : next_position es ≡ next_from 0 xs
  pub evicted : latest_eviction es ≡ latest_from 0 xs
  pub top : greatest_stored es ≤ next_from 0 xs
  pub top_lower : greatest_stored es < next_from 0 xs ⊎ (xs ≡ [])
  pub last : last_position es ≡ last_number xs
  pub held : (x : ℕ × Write) → IsIn x xs → last_under x.1.number es ≡ Some x

last_number-push : (xs : List (ℕ × Write)) (x : ℕ × Write) → last_number (xs ++ x ∷ []) ≡ Some x.1.number
last_number-push [] x = refl
last_number-push (y ∷ []) x = refl
last_number-push (y ∷ z ∷ xs) x = last_number-push (z ∷ xs) x

under_now : (o : Option (ℕ × Write)) (t : ℕ) (w : Write) → latter o (stored_under w.number (pushed w.number t w true)) ≡ Some (t, w)
under_now o t w = pick (eqb w.number w.number) refl where
  pick : (b : Bool) → eqb w.number w.number ≡ b → latter o (cond b (Some (t, w)) None) ≡ Some (t, w)
  pick true is = refl
  pick false is = absurd (grind (arith, nat_tests))

under_before : (o : Option (ℕ × Write)) (n t : ℕ) (w : Write) → n < w.number → latter o (stored_under n (pushed w.number t w true)) ≡ o
under_before o n t w lt = pick (eqb w.number n) refl where
  pick : (b : Bool) → eqb w.number n ≡ b → latter o (cond b (Some (t, w)) None) ≡ o
  pick false is = refl
  pick true is = absurd (grind (arith, nat_tests))

all_held_more : (L : Outgoing) {xs : List (ℕ × Write)} {es : List (Stored Write)} (t : ℕ) (w : Write) (held : Bool) → (MustStore (past_of L es) w.number t → held ≡ true)
    → 0 < min L.packets 10 → 0 < L.age → RiseFrom 0 (xs ++ (t, w) ∷ []) → LateFrom 0 (xs ++ (t, w) ∷ []) → AllHeld xs es → AllHeld (xs ++ (t, w) ∷ []) (two_more es t w held)
all_held_more L {xs} {es} t w held must room aging rise late old = with_it held must
  where
    up : RiseFrom 0 xs × (next_from 0 xs ≤ w.number)
    up = rise-push 0 xs (t, w) rise

    on : LateFrom 0 xs × (latest_from 0 xs ≤ t)
    on = late-front 0 xs (t, w) late

    due : MustStore (past_of L es) w.number t
    due = record { roomy = room; aging = aging; timely = subst (λ (n : ℕ). n ≤ t) (sym old.evicted) on.1; above = subst (λ (n : ℕ). n ≤ w.number) (sym old.next) up.1 }

    with_it : (held : Bool) → (MustStore (past_of L es) w.number t → held ≡ true) → AllHeld (xs ++ (t, w) ∷ []) (two_more es t w held)
    with_it false must = absurd (false≢true (must due))
    with_it true must =
        let n1 = next-push 0 xs (t, w) in
        let t1 = latest-push 0 xs (t, w) in
        let g1 = greatest-two after_pushed es t w true in
        let g2 = greatest-two evicted_at es t w true in
        let g3 = greatest-two stored_position es t w true in
        let o1 = old.next in
        let o2 = old.evicted in
        let o3 = old.top in
        record {
          next = omega (arith, n1, g1, o1, up.1);
          evicted = omega (arith, t1, g2, o2, on.1);
          top = omega (arith, n1, g3, o3, up.1);
          top_lower = inl (omega (arith, n1, g3, o3, up.1));
          last = last-two stored_at es t w true ∙ sym (last_number-push xs (t, w));
          held = λ x i. elim (IsIn-append x xs ((t, w) ∷ []) i) [
            | inl j ↦ last-two (stored_under x.1.number) es t w true ∙ under_before (last_under x.1.number es) x.1.number t w (less (below_next 0 xs up.0).1 x j) ∙ old.held x j
            | inr j ↦ elim j [ inl e ↦ subst (λ (y : ℕ × Write). last_under y.1.number (two_more es t w true) ≡ Some y) (sym e) (last-two (stored_under w.number) es t w true ∙ under_now (last_under w.number es) t w) | inr k ↦ absurd k ]
          ];
        }
      where
        less : ((x : ℕ × Write) → IsIn x xs → x.1.number < next_from 0 xs) → (x : ℕ × Write) → IsIn x xs → x.1.number < w.number
        less all x j = let a = all x j in let b = up.1 in omega (arith, a, b)

all_held : {L : Outgoing} {xs : List (ℕ × Write)} {es : List (Stored Write)} → Tells L xs es → 0 < min L.packets 10 → 0 < L.age → RiseFrom 0 xs → LateFrom 0 xs → AllHeld xs es
all_held nothing room aging rise late = record { next = refl; evicted = refl; top = omega arith; top_lower = inr refl; last = refl; held = λ x i. absurd i }
all_held {L} (one_more {xs} {es} told t w held must) room aging rise late =
    all_held_more L t w held must room aging rise late (all_held told room aging (rise-push 0 xs (t, w) rise).0 (late-front 0 xs (t, w) late).0)

-- a kept number is held
pub kept_is_held : {T : Types} {L : Outgoing} {sent : List (ℕ × Write)} {es : List (Stored Write)} → Tells L (cached T L sent) es → LateFrom 0 (cached T L sent)
    → (n : ℕ) → Kept T L sent n → HeldAs (past_of L es) n None → ⊥
kept_is_held {T} {L} {sent} {es} told late n k none = away (none k.moment k.write under)
  where
    all : AllHeld (cached T L sent) es
    all = all_held told room k.aging k.rise late
      where
        room : 0 < min L.packets 10
        room =
            let a = (below_next 0 (cached T L sent) k.rise).1 (k.moment, k.write) k.there in
            let b = k.near in
            let c = k.number in
            omega (arith, a, b, c)

    under : last_under n es ≡ Some (k.moment, k.write)
    under = subst (λ (m : ℕ). last_under m es ≡ Some (k.moment, k.write)) k.number (all.held (k.moment, k.write) k.there)

    away : MayGo (past_of L es) n k.moment → ⊥
    away (inl old) = let a = all.evicted in let b = k.young in omega (arith, a, b, old)
    away (inr far) = elim all.top_lower [
      | inl lt ↦ let b = k.near in omega (arith, lt, b, far)
      | inr e ↦ subst (IsIn (k.moment, k.write)) e k.there
    ]

-- the number that was given last was sent
last_was_sent : {L : Outgoing} {xs : List (ℕ × Write)} {es : List (Stored Write)} → Tells L xs es → (n : ℕ) → last_position es ≡ Some n → (x : ℕ × Write) × IsIn x xs × (x.1.number ≡ n)
last_was_sent nothing n h = absurd (let not_so : None ≡ Some n = h in cc)
last_was_sent (one_more {xs} {es} told t w held must) n h = pick held (sym (last-two stored_at es t w held) ∙ h) (last_was_sent told n)
  where
    pick : (held : Bool) → latter (last_position es) (stored_at (pushed w.number t w held)) ≡ Some n → (last_position es ≡ Some n → (x : ℕ × Write) × IsIn x xs × (x.1.number ≡ n))
        → (x : ℕ × Write) × IsIn x (xs ++ (t, w) ∷ []) × (x.1.number ≡ n)
    pick true is old = ((t, w), IsIn-right (t, w) xs ((t, w) ∷ []) (inl refl), same_Some w.number n is)
    pick false is old = let r = old is in (r.0, IsIn-left r.0 xs ((t, w) ∷ []) r.1, r.2)

-- where anything is kept, the number that was given last is that of the greatest or of one behind it

evicted_last : {L : Outgoing} {xs : List (ℕ × Write)} {es : List (Stored Write)} → Tells L xs es → LateFrom 0 xs → latest_eviction es ≡ latest_from 0 xs
evicted_last nothing late = refl
evicted_last (one_more {xs} {es} told t w held must) late =
    let on = late-front 0 xs (t, w) late in
    let old = evicted_last told on.0 in
    let new = greatest-two evicted_at es t w held in
    let last = latest-push 0 xs (t, w) in
    omega (arith, old, new, last, on.1)

-- the greatest of what was told, and the one that was stored last from there on
record Topped (xs : List (ℕ × Write)) (es : List (Stored Write)) : Type 0 where
  pub before : List (ℕ × Write)
  pub top : ℕ × Write
  pub after : List (ℕ × Write)
  pub split : xs ≡ before ++ top ∷ after
  pub greatest : (x : ℕ × Write) → IsIn x xs → x.1.number ≤ top.1.number
  pub next : next_position es ≡ top.1.number + 1
  pub last : ℕ × Write
  pub there : IsIn last (top ∷ after)
  pub given : last_position es ≡ Some last.1.number

-- or nothing was told
record Untold (xs : List (ℕ × Write)) (es : List (Stored Write)) : Type 0 where
  pub empty : xs ≡ []
  pub next : next_position es ≡ 0
  pub given : last_position es ≡ None

abbrev Told : List (ℕ × Write) → List (Stored Write) → Type 0
Told xs es = Untold xs es ⊎ Topped xs es

top_of : {xs : List (ℕ × Write)} {es : List (Stored Write)} → Told xs es → (x : ℕ × Write) → IsIn x xs → x.1.number < next_position es
top_of (inl u) x i = absurd (subst (IsIn x) u.empty i)
top_of (inr h) x i = let a = h.greatest x i in let b = h.next in omega (arith, a, b)

module _ {xs : List (ℕ × Write)} {es : List (Stored Write)} (t : ℕ) (w : Write) (held : Bool) where
  -- one above all others is stored
  on_top : Told xs es → next_position es ≤ w.number → held ≡ true → Topped (xs ++ (t, w) ∷ []) (two_more es t w held)
  on_top told above is = record {
    before = xs;
    top = (t, w);
    after = [];
    split = refl;
    greatest = λ x i. elim (IsIn-append x xs ((t, w) ∷ []) i) [
      | inl j ↦ let a = top_of told x j in omega (arith, a, above)
      | inr j ↦ elim j [ inl e ↦ subst (λ (y : ℕ × Write). y.1.number ≤ w.number) (sym e) (omega arith) | inr k ↦ absurd k ]
    ];
    next = let a = greatest-two after_pushed es t w held in omega (arith, a, above);
    last = (t, w);
    there = inl refl;
    given = last-two stored_at es t w held ∙ ap (λ (b : Bool). latter (latter (last_position es) (cond b (Some w.number) None)) None) is;
  }

  -- another stands behind the greatest
  below_top : (h : Topped xs es) → w.number < next_position es → Topped (xs ++ (t, w) ∷ []) (two_more es t w held)
  below_top h below =
      let last = pick held in
      record {
        before = h.before;
        top = h.top;
        after = h.after ++ (t, w) ∷ [];
        split = ap (λ (l : List (ℕ × Write)). l ++ (t, w) ∷ []) h.split ∙ append_assoc h.before (h.top ∷ h.after) ((t, w) ∷ []);
        greatest = λ x i. elim (IsIn-append x xs ((t, w) ∷ []) i) [
          | inl j ↦ h.greatest x j
          | inr j ↦ elim j [ inl e ↦ subst (λ (y : ℕ × Write). y.1.number ≤ h.top.1.number) (sym e) (let a = h.next in omega (arith, a, below)) | inr k ↦ absurd k ]
        ];
        next = let a = greatest-two after_pushed es t w held in let b = h.next in omega (arith, a, b, below);
        last = last.0;
        there = last.1;
        given = last-two stored_at es t w held ∙ last.2;
      }
    where
      pick : (b : Bool) → (x : ℕ × Write) × IsIn x (h.top ∷ h.after ++ (t, w) ∷ []) × (latter (latter (last_position es) (cond b (Some w.number) None)) None ≡ Some x.1.number)
      pick true = ((t, w), IsIn-right (t, w) (h.top ∷ h.after) ((t, w) ∷ []) (inl refl), refl)
      pick false = (h.last, IsIn-left h.last (h.top ∷ h.after) ((t, w) ∷ []) h.there, h.given)

  one_told : Told xs es → (next_position es ≤ w.number → held ≡ true) → Topped (xs ++ (t, w) ∷ []) (two_more es t w held)
  one_told told must = at_most (nat_le (next_position es) w.number) refl told
    where
      at_most : (b : Bool) → nat_le (next_position es) w.number ≡ b → Told xs es → Topped (xs ++ (t, w) ∷ []) (two_more es t w held)
      at_most true is told = let above = leb-true (next_position es) w.number is in on_top told above (must above)
      at_most false is (inr h) = below_top h (leb-false (next_position es) w.number is)
      at_most false is (inl u) = let below = leb-false (next_position es) w.number is in let none = u.next in absurd (omega (arith, below, none))

all_told : {L : Outgoing} {xs : List (ℕ × Write)} {es : List (Stored Write)} → Tells L xs es → 0 < min L.packets 10 → 0 < L.age → LateFrom 0 xs → Told xs es
all_told nothing room aging late = inl (record { empty = refl; next = refl; given = refl })
all_told {L} (one_more {xs} {es} told t w held must) room aging late =
    let on = late-front 0 xs (t, w) late in
    let timely : latest_eviction es ≤ t = subst (λ (n : ℕ). n ≤ t) (sym (evicted_last told on.0)) on.1 in
    inr (one_told t w held (all_told told room aging on.0) (λ above. must (record { roomy = room; aging = aging; timely = timely; above = above })))

last_told : {xs : List (ℕ × Write)} {es : List (Stored Write)} → Told xs es → (n : ℕ) → last_position es ≡ Some n → IsFromGreatest xs n
last_told (inl u) n h = absurd (let no : None ≡ Some n = sym u.given ∙ h in cc)
last_told (inr t) n h = record {
  before = t.before;
  top = t.top;
  after = t.after;
  split = t.split;
  greatest = t.greatest;
  there = (t.last, t.there, same_Some t.last.1.number n (sym t.given ∙ h));
}

none_told : {xs : List (ℕ × Write)} {es : List (Stored Write)} → Told xs es → last_position es ≡ None → xs ≡ []
none_told (inl u) h = u.empty
none_told (inr t) h = absurd (let no : None ≡ Some t.last.1.number = sym h ∙ t.given in cc)

pub is_last : {T : Types} {L : Outgoing} {sent : List (ℕ × Write)} {es : List (Stored Write)} → Tells L (cached T L sent) es → LateFrom 0 (cached T L sent) → IsLast T L sent (last_position es)
is_last told late = record {
  one = last_was_sent told;
  late = λ room aging. last_told (all_told told (omega (arith, room)) aging late);
  none = λ room aging. none_told (all_told told (omega (arith, room)) aging late);
  greatest = λ rise room aging. (all_held told (omega (arith, room)) aging rise late).last;
}
