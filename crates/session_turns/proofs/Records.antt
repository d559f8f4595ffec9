-- What is known of the numbers of an incoming stream, and of the plain one that it mirrors.
use Rattle.std.proofs.Common.{◌≡◌, inl, inr, ℕ, ◌+◌, ◌-◌, ◌*◌, ◌%◌, ◌/◌, ◌^◌, ◌<◌, ◌≤◌, Bool, true, false, cond, List, [], ◌∷◌, ◌++◌, Option, Some, None, refl, sym, ap, ◌∙◌, subst, arith}
use Rattle.std.specs.Prelude.{max, min, unwrap_or, if◌then◌else◌}
use Rattle.std.specs.Option.{option_map, option_map_or}
use Rattle.std.proofs.lemmas.Bool.{eq-eqb, false≢true, cases_Bool}
use Rattle.rtp_base.specs.Widen.{widen16, rollover}
use Rattle.rtp_base.specs.Window.{greatest, is_fresh_rtx, is_fresh_after, with_fresh, greatest_after, is_just}
use Rattle.repair_core.specs.Fresh.{greatest_of, is_fresh, with_number}
use Rattle.repair_core.specs.Rounds.{Heard, started_at, taken}
use Rattle.rtx_core.specs.Repairs.{RepairPast, repair_near, is_fresh_repair, repair_opened}
use Rattle.stream_core.specs.Seen.{saw}
use Rattle.stream_core.specs.Tables.{value_under}
use Rattle.run_model.specs.Receiving.{begun_with, floor_with, base_with}
use Rattle.run_model.specs.RxPlay.{taken_in, register}
use Rattle.session_turns.specs.Mirrors.{SameNumbers, MirrorsSeen, MirrorsPast, rtx_seen, HasBegun}
use Rattle.session_turns.proofs.Fresh.{same_refl, with_fresh_same}
use Rattle.session_turns.proofs.Keyed.{seen_more, value_saw, value_saw_other}

-- what was seen under an SSRC

pub seen_greatest : (o : Option (List ℕ)) (ys : List ℕ) → MirrorsSeen o ys → option_map greatest o ≡ greatest_of ys
seen_greatest None ys e = sym (ap greatest_of e)
seen_greatest (Some xs) [] e = absurd e
seen_greatest (Some xs) (y ∷ ys) s = ap Some s.high

seen_added : (n : ℕ) (o : Option (List ℕ)) (ys : List ℕ) → MirrorsSeen o ys → MirrorsSeen (seen_more n o) (ys ++ n ∷ [])
seen_added n None ys e = subst (λ (l : List ℕ). MirrorsSeen (Some (n ∷ [])) (l ++ n ∷ [])) (sym e) (same_refl None (n ∷ []))
seen_added n (Some xs) [] e = absurd e
seen_added n (Some xs) (y ∷ ys) s = with_fresh_same None xs (y ∷ ys) n s

pub unseen_same : (n : ℕ) (o : Option (List ℕ)) (ys : List ℕ) → MirrorsSeen o ys → option_map_or (λ numbers. is_fresh_rtx numbers n) o true ≡ is_fresh_rtx ys n
unseen_same n None ys e = sym (ap (λ l. is_fresh_rtx l n) e)
unseen_same n (Some xs) [] e = absurd e
unseen_same n (Some xs) (y ∷ ys) s = s.fresh n

pub saw_main : (m n : ℕ) (seen : List (ℕ × List ℕ)) (ys : List ℕ) → MirrorsSeen (value_under m seen) ys → MirrorsSeen (value_under m (saw m n seen)) (ys ++ n ∷ [])
saw_main m n seen ys s = subst (λ o. MirrorsSeen o (ys ++ n ∷ [])) (sym (value_saw m n seen)) (seen_added n (value_under m seen) ys s)

pub saw_other : (k m n : ℕ) (seen : List (ℕ × List ℕ)) (ys : List ℕ) → (k ≡ m → ⊥) → MirrorsSeen (value_under k seen) ys → MirrorsSeen (value_under k (saw m n seen)) ys
saw_other k m n seen ys other s = subst (λ o. MirrorsSeen o ys) (sym (value_saw_other k m n seen other)) s

pub saw_rtx_other : (o : Option ℕ) (m n : ℕ) (seen : List (ℕ × List ℕ)) (ys : List ℕ) → is_just m o ≡ false → rtx_seen seen o ys → rtx_seen (saw m n seen) o ys
saw_rtx_other None m n seen ys other s = s
saw_rtx_other (Some x) m n seen ys other s = saw_other x m n seen ys (λ is. false≢true (sym other ∙ eq-eqb x m is)) s

pub saw_rtx : (o : Option ℕ) (m n : ℕ) (seen : List (ℕ × List ℕ)) (ys : List ℕ) → o ≡ Some m → rtx_seen seen o ys → rtx_seen (saw m n seen) o (ys ++ n ∷ [])
saw_rtx o m n seen ys is s = subst (λ p. rtx_seen (saw m n seen) p (ys ++ n ∷ [])) (sym is) (saw_main m n seen ys (subst (λ p. rtx_seen seen p ys) is s))

-- the register

pub heard_is : (remembered : Option ℕ) (seen : List ℕ) (o : Option Heard) → remembered ≡ greatest_of seen → unwrap_or o (started_at remembered) ≡ register seen o
heard_is remembered seen None e = ap started_at e
heard_is remembered seen (Some h) e = refl

begun_again : (seen : Option ℕ) (l : List ℕ) → (l ≡ [] → ⊥) → begun_with seen l ≡ l
begun_again seen [] some = absurd (some refl)
begun_again seen (n ∷ ns) some = refl

pub register_takes : (seen : List ℕ) (numbers : Option Heard) → HasBegun numbers → taken (register seen numbers) ≡ begun_with (greatest_of seen) (taken_in numbers)
register_takes seen None h = refl
register_takes seen (Some h) some = sym (begun_again (greatest_of seen) (taken h) some)

pub with_number_some : (l : List ℕ) (n : ℕ) → with_number l n ≡ [] → ⊥
with_number_some [] n e = absurd cc
with_number_some (x ∷ xs) n e =
    elim (cases_Bool (is_fresh (x ∷ xs) n)) [
      | inl t ↦ let not_so : x ∷ (xs ++ n ∷ []) ≡ [] = sym (ap (λ b. cond b ((x ∷ xs) ++ n ∷ []) (x ∷ xs)) t) ∙ e in absurd cc
      | inr t ↦ let not_so : x ∷ xs ≡ [] = sym (ap (λ b. cond b ((x ∷ xs) ++ n ∷ []) (x ∷ xs)) t) ∙ e in absurd cc
    ]

-- repairs

max_zero : (f : ℕ) → f ≡ max f 0
max_zero f = omega arith

base_none : (g : Option ℕ) → g ≡ base_with g []
base_none None = refl
base_none (Some f) = ap Some (max_zero f)

base_some : (floor : Option ℕ) (y : ℕ) (ys : List ℕ) → Some (greatest_after floor (y ∷ ys)) ≡ base_with floor (y ∷ ys)
base_some None y ys = refl
base_some (Some f) y ys = refl

pub base_same : (g : Option ℕ) (past : Option RepairPast) (floor : Option ℕ) (ys : List ℕ) → MirrorsPast past floor ys → repair_near g past ≡ base_with (floor_with g floor ys) ys
base_same g None floor ys e = subst (λ (l : List ℕ). g ≡ base_with (floor_with g floor l) l) (sym e) (base_none g)
base_same g (Some past) floor [] e = absurd e
base_same g (Some past) floor (y ∷ ys) s = ap Some (ap (λ f. greatest_after f past.tried) s.0 ∙ s.1.high) ∙ base_some floor y ys

pub fresh_same : (g : Option ℕ) (past : Option RepairPast) (floor : Option ℕ) (ys : List ℕ) (n : ℕ) → MirrorsPast past floor ys → is_fresh_repair g past n ≡ is_fresh_after (floor_with g floor ys) ys n
fresh_same g None floor ys n e = subst (λ (l : List ℕ). is_fresh_after g [] n ≡ is_fresh_after (floor_with g floor l) l n) (sym e) refl
fresh_same g (Some past) floor [] n e = absurd e
fresh_same g (Some past) floor (y ∷ ys) n s = ap (λ f. is_fresh_after f past.tried n) s.0 ∙ s.1.fresh n

pub past_opened : (g : Option ℕ) (past : Option RepairPast) (floor : Option ℕ) (ys : List ℕ) (n : ℕ) → MirrorsPast past floor ys
    → MirrorsPast (repair_opened g n past) (floor_with g floor ys) (ys ++ n ∷ [])
past_opened g None floor ys n e =
    subst (λ (l : List ℕ). MirrorsPast (repair_opened g n None) (floor_with g floor l) (l ++ n ∷ [])) (sym e) (refl, with_fresh_same g [] [] n (same_refl g []))
past_opened g (Some past) floor [] n e = absurd e
past_opened g (Some past) floor (y ∷ ys) n s =
    (s.0, subst (λ f. SameNumbers floor (with_fresh f past.tried n) (y ∷ (ys ++ n ∷ []))) (sym s.0) (with_fresh_same floor past.tried (y ∷ ys) n s.1))

-- numbers and their low 16 bits

low_of_sum : (r q : ℕ) → q < 65536 → (r * 65536 + q) % 65536 ≡ q
low_of_sum r q h = omega arith

pub low_again : (o : Option ℕ) (q : ℕ) → q < 65536 → widen16 o q % 65536 ≡ q
low_again None q h = omega arith
low_again (Some p) q h = low_of_sum (rollover 32768 (p / 65536) (p % 65536) q) q h

pub pause_is : (now t : ℕ) → now ≤ 10 ^ 16 → t ≤ 10 ^ 16 → min (now + t) (2 ^ 64 - 1) ≡ now + t
pause_is now t a b = omega arith

-- a number where a test holds of it
abbrev pub where_fresh : Bool → ℕ → Option ℕ
where_fresh b n = if b then Some n else None

pub fresh_where : (b : Bool) (m n : ℕ) → where_fresh b m ≡ Some n → (b ≡ true) × (m ≡ n)
fresh_where true m n e = (refl, let both = e in cc)
fresh_where false m n e = absurd cc
