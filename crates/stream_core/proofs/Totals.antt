-- What a queue knows of its packets, as calls change them.
use Rattle.std.proofs.Common.{◌≡◌, ℕ, zero, suc, ◌+◌, ◌-◌, ◌*◌, ◌<◌, ◌≤◌, ◌^◌, Bool, true, false, List, [], ◌∷◌, ◌++◌, Option, Some, None, is_some, length, map, take, drop, get_or, refl, sym, ap, subst, ◌∙◌, arith}
use Rattle.std.proofs.Math.Nat.{suc-mul}
use Rattle.std.proofs.lemmas.Bool.Decides.{nat_tests}
use Rattle.std.proofs.lemmas.List.{length-map, length-take, drop_more, get_or_at}
use Rattle.std.proofs.lemmas.List.Sums.{sum_by-cons}
use Rattle.std.specs.Prelude.{◌==◌, cond, if◌then◌else◌, is_none, min, IfSome}
use Rattle.std.specs.Option.{option_map_or}
use Rattle.std.specs.List.{AllByRecursion, cons_option, sum}
use Rattle.pace_units.specs.declared.queue.QueuePriority.{QueuePriority}
use Rattle.pace_units.specs.declared.queue.QueuePriority.TheVariants.{Media, Empty}
use Rattle.pace_units.specs.declared.queue.QueueSnapshot.{QueueSnapshot}
use Rattle.stream_core.specs.declared.packet.RtpPacket.{RtpPacket}
use Rattle.media_units.specs.Soonest.{earlier}
use Rattle.stream_core.specs.Queue.{are_stamped, with_stamp, stamp_of, stamped, stamps_of, payload_bytes, waits, earliest_of, snapshot_of}
use Rattle.stream_core.specs.Totals.{RiseTo, IsSummable, Totals, goes_on, first_stamp}
use Rattle.stream_core.proofs.Stamps.{first, second, all_stamped, stamped_push}

pub bytes_cons : (p : RtpPacket) (ps : List RtpPacket) → payload_bytes (p ∷ ps) ≡ length p.payload + payload_bytes ps
bytes_cons p ps = sum_by-cons (λ p. length p.payload) p ps

sum_cons : (t : ℕ) (ts : List ℕ) → sum (t ∷ ts) ≡ t + sum ts
sum_cons t ts = sum_by-cons (λ x. x) t ts

pub waits_cons : (now t : ℕ) (ts : List ℕ) → waits now (t ∷ ts) ≡ (now - t) + waits now ts
waits_cons now t ts = sum_by-cons (λ t. now - t) t ts

none_is : (o : Option ℕ) → is_none o ≡ true → o ≡ None
none_is None h = refl
none_is (Some t) h = absurd cc

some_is : (o : Option ℕ) → is_some o ≡ true → (t : ℕ) × (o ≡ Some t)
some_is None h = absurd cc
some_is (Some t) h = (t, refl)

skip : (p : RtpPacket) (ps : List RtpPacket) → p.timestamp ≡ None → stamped (p ∷ ps) ≡ stamped ps
skip p ps h = ap (λ o. cond (is_some o) (p ∷ stamped ps) (stamped ps)) h

skip_stamp : (p : RtpPacket) (ps : List RtpPacket) → p.timestamp ≡ None → stamps_of (p ∷ ps) ≡ stamps_of ps
skip_stamp p ps h = ap (λ o. cons_option o (stamps_of ps)) h

keep : (p : RtpPacket) (ps : List RtpPacket) (t : ℕ) → p.timestamp ≡ Some t → stamped (p ∷ ps) ≡ p ∷ stamped ps
keep p ps t h = ap (λ o. cond (is_some o) (p ∷ stamped ps) (stamped ps)) h

keep_stamp : (p : RtpPacket) (ps : List RtpPacket) (t : ℕ) → p.timestamp ≡ Some t → stamps_of (p ∷ ps) ≡ t ∷ stamps_of ps
keep_stamp p ps t h = ap (λ o. cons_option o (stamps_of ps)) h

-- so many have a stamp
pub count_is : (n : ℕ) (ps : List RtpPacket) → are_stamped n ps ≡ true → length (stamped ps) ≡ n
count_is zero [] h = refl
count_is (suc n) [] h = absurd cc
count_is zero (p ∷ ps) h =
    ap length (skip p ps (none_is p.timestamp (first (is_none p.timestamp) (are_stamped zero ps) h)))
    ∙ count_is zero ps (second (is_none p.timestamp) (are_stamped zero ps) h)
count_is (suc n) (p ∷ ps) h =
    let s = some_is p.timestamp (first (is_some p.timestamp) (are_stamped n ps) h) in
    ap length (keep p ps s.0 s.1) ∙ ap suc (count_is n ps (second (is_some p.timestamp) (are_stamped n ps) h))

as_many_step : (o : Option ℕ) (p : RtpPacket) (ts : List ℕ) (qs : List RtpPacket) → length ts ≡ length qs → length (cons_option o ts) ≡ length (cond (is_some o) (p ∷ qs) qs)
as_many_step None p ts qs h = h
as_many_step (Some t) p ts qs h = ap suc h

pub as_many : (ps : List RtpPacket) → length (stamps_of ps) ≡ length (stamped ps)
as_many [] = refl
as_many (p ∷ ps) = as_many_step p.timestamp p (stamps_of ps) (stamped ps) (as_many ps)

no_stamps : (ps : List RtpPacket) → are_stamped zero ps ≡ true → stamps_of ps ≡ []
no_stamps [] h = refl
no_stamps (p ∷ ps) h =
    skip_stamp p ps (none_is p.timestamp (first (is_none p.timestamp) (are_stamped zero ps) h))
    ∙ no_stamps ps (second (is_none p.timestamp) (are_stamped zero ps) h)

-- one more packet without a stamp
push_bytes : (ps : List RtpPacket) (p : RtpPacket) → p.timestamp ≡ None → stamped (ps ++ p ∷ []) ≡ stamped ps
push_bytes [] p h = skip p [] h
push_bytes (q ∷ qs) p h = ap (λ rs. cond (is_some q.timestamp) (q ∷ rs) rs) (push_bytes qs p h)

push_stamps : (ps : List RtpPacket) (p : RtpPacket) → p.timestamp ≡ None → stamps_of (ps ++ p ∷ []) ≡ stamps_of ps
push_stamps [] p h = skip_stamp p [] h
push_stamps (q ∷ qs) p h = ap (cons_option q.timestamp) (push_stamps qs p h)

push_summable : (ps : List RtpPacket) (p : RtpPacket) → IsSummable p → AllByRecursion IsSummable ps → AllByRecursion IsSummable (ps ++ p ∷ [])
push_summable [] p s h = (s, tt)
push_summable (q ∷ qs) p s h = (h.0, push_summable qs p s h.1)

pub pushed : (ps : List RtpPacket) (count bytes stamps last : ℕ) (rising : Bool) (p : RtpPacket) → Totals ps count bytes stamps last rising → p.timestamp ≡ None → length p.payload ≤ 1400 → Totals (ps ++ p ∷ []) count bytes stamps last rising
pushed ps count bytes stamps last rising p t none small = record {
  in_front = stamped_push count ps p t.in_front none;
  all_bytes = t.all_bytes ∙ ap payload_bytes (sym (push_bytes ps p none));
  all_stamps = t.all_stamps ∙ ap sum (sym (push_stamps ps p none));
  rise = λ r. subst (RiseTo last) (sym (push_stamps ps p none)) (t.rise r);
  summable = push_summable ps p (small, subst (λ o. IfSome o (λ t. t < 2 ^ 64)) (sym none) tt) t.summable;
}

-- the sums after a tick
tick_bytes : (now n : ℕ) (ps : List RtpPacket) → are_stamped n ps ≡ true → payload_bytes (stamped (map (with_stamp now) ps)) ≡ payload_bytes (stamped ps) + payload_bytes (drop n ps)
tick_bytes now zero [] h = refl
tick_bytes now (suc n) [] h = absurd cc
tick_bytes now zero (p ∷ ps) h =
    let none : p.timestamp ≡ None = none_is p.timestamp (first (is_none p.timestamp) (are_stamped zero ps) h) in
    let q : RtpPacket = with_stamp now p in
    let qs : List RtpPacket = map (with_stamp now) ps in
    let after : payload_bytes (stamped (q ∷ qs)) ≡ length p.payload + payload_bytes (stamped qs) = ap payload_bytes (keep q qs now (ap (stamp_of now) none)) ∙ bytes_cons q (stamped qs) in
    let before : payload_bytes (stamped (p ∷ ps)) ≡ payload_bytes (stamped ps) = ap payload_bytes (skip p ps none) in
    let all : payload_bytes (p ∷ ps) ≡ length p.payload + payload_bytes ps = bytes_cons p ps in
    let rest : payload_bytes (stamped qs) ≡ payload_bytes (stamped ps) + payload_bytes ps = tick_bytes now zero ps (second (is_none p.timestamp) (are_stamped zero ps) h) in
    omega arith
tick_bytes now (suc n) (p ∷ ps) h =
    let s = some_is p.timestamp (first (is_some p.timestamp) (are_stamped n ps) h) in
    let q : RtpPacket = with_stamp now p in
    let qs : List RtpPacket = map (with_stamp now) ps in
    let after : payload_bytes (stamped (q ∷ qs)) ≡ length p.payload + payload_bytes (stamped qs) = ap payload_bytes (keep q qs s.0 (ap (stamp_of now) s.1)) ∙ bytes_cons q (stamped qs) in
    let before : payload_bytes (stamped (p ∷ ps)) ≡ length p.payload + payload_bytes (stamped ps) = ap payload_bytes (keep p ps s.0 s.1) ∙ bytes_cons p (stamped ps) in
    let rest : payload_bytes (stamped qs) ≡ payload_bytes (stamped ps) + payload_bytes (drop n ps) = tick_bytes now n ps (second (is_some p.timestamp) (are_stamped n ps) h) in
    omega arith

tick_stamps : (now n k : ℕ) (ps : List RtpPacket) → are_stamped n ps ≡ true → n + k ≡ length ps → sum (stamps_of (map (with_stamp now) ps)) ≡ sum (stamps_of ps) + k * now
tick_stamps now zero zero [] h e = omega arith
tick_stamps now zero (suc k) [] h e = absurd (omega arith)
tick_stamps now zero zero (p ∷ ps) h e = absurd (omega arith)
tick_stamps now (suc n) k [] h e = absurd cc
tick_stamps now zero (suc k) (p ∷ ps) h e =
    let none : p.timestamp ≡ None = none_is p.timestamp (first (is_none p.timestamp) (are_stamped zero ps) h) in
    let q : RtpPacket = with_stamp now p in
    let qs : List RtpPacket = map (with_stamp now) ps in
    let after : sum (stamps_of (q ∷ qs)) ≡ now + sum (stamps_of qs) = ap sum (keep_stamp q qs now (ap (stamp_of now) none)) ∙ sum_cons now (stamps_of qs) in
    let before : sum (stamps_of (p ∷ ps)) ≡ sum (stamps_of ps) = ap sum (skip_stamp p ps none) in
    let more : suc k * now ≡ k * now + now = suc-mul k now in
    let rest : sum (stamps_of qs) ≡ sum (stamps_of ps) + k * now = tick_stamps now zero k ps (second (is_none p.timestamp) (are_stamped zero ps) h) (omega arith) in
    omega arith
tick_stamps now (suc n) k (p ∷ ps) h e =
    let s = some_is p.timestamp (first (is_some p.timestamp) (are_stamped n ps) h) in
    let q : RtpPacket = with_stamp now p in
    let qs : List RtpPacket = map (with_stamp now) ps in
    let after : sum (stamps_of (q ∷ qs)) ≡ s.0 + sum (stamps_of qs) = ap sum (keep_stamp q qs s.0 (ap (stamp_of now) s.1)) ∙ sum_cons s.0 (stamps_of qs) in
    let before : sum (stamps_of (p ∷ ps)) ≡ s.0 + sum (stamps_of ps) = ap sum (keep_stamp p ps s.0 s.1) ∙ sum_cons s.0 (stamps_of ps) in
    let rest : sum (stamps_of qs) ≡ sum (stamps_of ps) + k * now = tick_stamps now n k ps (second (is_some p.timestamp) (are_stamped n ps) h) (omega arith) in
    omega arith

above_step : (now t : ℕ) (o : Option ℕ) (ts us : List ℕ) → t ≤ now → AllByRecursion (λ u. t ≤ u) (cons_option o ts) → (AllByRecursion (λ u. t ≤ u) ts → AllByRecursion (λ u. t ≤ u) us) → AllByRecursion (λ u. t ≤ u) (cons_option (stamp_of now o) us)
above_step now t None ts us le h f = (le, f h)
above_step now t (Some u) ts us le h f = (h.0, f h.1)

-- what none of the stamps is below
tick_above : (now t : ℕ) (ps : List RtpPacket) → t ≤ now → AllByRecursion (λ u. t ≤ u) (stamps_of ps) → AllByRecursion (λ u. t ≤ u) (stamps_of (map (with_stamp now) ps))
tick_above now t [] le h = tt
tick_above now t (p ∷ ps) le h = above_step now t p.timestamp (stamps_of ps) (stamps_of (map (with_stamp now) ps)) le h (tick_above now t ps le)

rise_step : (now m : ℕ) (o : Option ℕ) (ts us : List ℕ) → is_some o ≡ true → m ≤ now → RiseTo m (cons_option o ts) → ((t : ℕ) → t ≤ now → AllByRecursion (λ u. t ≤ u) ts → AllByRecursion (λ u. t ≤ u) us) → (RiseTo m ts → RiseTo now us) → RiseTo now (cons_option (stamp_of now o) us)
rise_step now m None ts us s le h f g = absurd cc
rise_step now m (Some t) ts us s le h f g = let low : t ≤ m = h.0 in (omega arith, f t (omega arith) h.1, g h.2)

new_step : (now : ℕ) (o : Option ℕ) (us : List ℕ) → o ≡ None → AllByRecursion (λ u. now ≤ u) us → RiseTo now us → RiseTo now (cons_option (stamp_of now o) us)
new_step now None us e h g = (omega arith, h, g)
new_step now (Some t) us e h g = absurd cc

tick_rise : (now m n : ℕ) (ps : List RtpPacket) → are_stamped n ps ≡ true → m ≤ now → RiseTo m (stamps_of ps) → RiseTo now (stamps_of (map (with_stamp now) ps))
tick_rise now m zero [] h le r = tt
tick_rise now m (suc n) [] h le r = absurd cc
tick_rise now m zero (p ∷ ps) h le r =
    let none : p.timestamp ≡ None = none_is p.timestamp (first (is_none p.timestamp) (are_stamped zero ps) h) in
    let rest : are_stamped zero ps ≡ true = second (is_none p.timestamp) (are_stamped zero ps) h in
    let nil : stamps_of ps ≡ [] = no_stamps ps rest in
    new_step now p.timestamp (stamps_of (map (with_stamp now) ps)) none
    (tick_above now now ps (omega arith) (subst (AllByRecursion (λ u. now ≤ u)) (sym nil) tt))
    (tick_rise now m zero ps rest le (subst (RiseTo m) (sym nil) tt))
tick_rise now m (suc n) (p ∷ ps) h le r =
    rise_step now m p.timestamp (stamps_of ps) (stamps_of (map (with_stamp now) ps))
    (first (is_some p.timestamp) (are_stamped n ps) h) le r
    (λ t low above. tick_above now t ps low above)
    (tick_rise now m n ps (second (is_some p.timestamp) (are_stamped n ps) h) le)

summable_step : (now : ℕ) (o : Option ℕ) → now < 2 ^ 64 → IfSome o (λ t. t < 2 ^ 64) → IfSome (stamp_of now o) (λ t. t < 2 ^ 64)
summable_step now None lt h = lt
summable_step now (Some t) lt h = h

tick_summable : (now : ℕ) (ps : List RtpPacket) → now < 2 ^ 64 → AllByRecursion IsSummable ps → AllByRecursion IsSummable (map (with_stamp now) ps)
tick_summable now [] lt h = tt
tick_summable now (p ∷ ps) lt h = ((h.0.0, summable_step now p.timestamp lt h.0.1), tick_summable now ps lt h.1)

-- bounds of the sums
few_bytes_step : (o : Option ℕ) (p : RtpPacket) (qs : List RtpPacket) (n : ℕ) → length p.payload ≤ 1400 → payload_bytes qs ≤ 1400 * n → payload_bytes (cond (is_some o) (p ∷ qs) qs) ≤ 1400 * suc n
few_bytes_step None p qs n small h = omega arith
few_bytes_step (Some t) p qs n small h = let e : payload_bytes (p ∷ qs) ≡ length p.payload + payload_bytes qs = bytes_cons p qs in omega arith

few_bytes : (ps : List RtpPacket) → AllByRecursion IsSummable ps → payload_bytes (stamped ps) ≤ 1400 * length ps
few_bytes [] h = omega arith
few_bytes (p ∷ ps) h = few_bytes_step p.timestamp p (stamped ps) (length ps) h.0.0 (few_bytes ps h.1)

low_stamps_step : (o : Option ℕ) (ts : List ℕ) (n : ℕ) → IfSome o (λ t. t < 2 ^ 64) → sum ts ≤ (2 ^ 64 - 1) * n → sum (cons_option o ts) ≤ (2 ^ 64 - 1) * suc n
low_stamps_step None ts n small h = omega arith
low_stamps_step (Some t) ts n small h = let low : t < 2 ^ 64 = small in let e : sum (t ∷ ts) ≡ t + sum ts = sum_cons t ts in omega arith

low_stamps : (ps : List RtpPacket) → AllByRecursion IsSummable ps → sum (stamps_of ps) ≤ (2 ^ 64 - 1) * length ps
low_stamps [] h = omega arith
low_stamps (p ∷ ps) h = low_stamps_step p.timestamp (stamps_of ps) (length ps) h.0.1 (low_stamps ps h.1)

goes_on_parts : (n last now : ℕ) (rising : Bool) → goes_on (suc n) last now rising ≡ true → (rising ≡ true) × (last ≤ now)
goes_on_parts n last now true e = (refl, grind (arith, nat_tests))
goes_on_parts n last now false e = absurd (grind (arith, nat_tests))

-- whether stamps that never fell go on so, where the next is at a moment
next_rise : (ps : List RtpPacket) (count last now : ℕ) (rising : Bool) → are_stamped count ps ≡ true → (rising ≡ true → RiseTo last (stamps_of ps)) → goes_on count last now rising ≡ true → RiseTo now (stamps_of (map (with_stamp now) ps))
next_rise ps zero last now rising h r e = tick_rise now now zero ps h (omega arith) (subst (RiseTo now) (sym (no_stamps ps h)) tt)
next_rise ps (suc n) last now rising h r e = let both = goes_on_parts n last now rising e in tick_rise now last (suc n) ps h both.1 (r both.0)

pub ticked : (ps : List RtpPacket) (count bytes stamps last now k : ℕ) (rising : Bool) → Totals ps count bytes stamps last rising → now < 2 ^ 64 → count + k ≡ length ps → Totals (map (with_stamp now) ps) (length ps) (bytes + payload_bytes (drop count ps)) (stamps + k * now) now (goes_on count last now rising)
ticked ps count bytes stamps last now k rising t lt e = record {
  in_front = all_stamped now ps;
  all_bytes = ap (λ b. b + payload_bytes (drop count ps)) t.all_bytes ∙ sym (tick_bytes now count ps t.in_front);
  all_stamps = ap (λ s. s + k * now) t.all_stamps ∙ sym (tick_stamps now count k ps t.in_front e);
  rise = next_rise ps count last now rising t.in_front t.rise;
  summable = tick_summable now ps lt t.summable;
}

pub ticked_so : (ps new : List RtpPacket) (count bytes stamps last now k moment long added : ℕ) (rising goes : Bool) → Totals ps count bytes stamps last rising → now < 2 ^ 64 → count + k ≡ length ps → new ≡ map (with_stamp now) ps → long ≡ length new → added ≡ payload_bytes (drop count ps) → moment ≡ now → goes ≡ goes_on count last now rising → Totals new long (bytes + added) (stamps + k * moment) now goes
ticked_so ps new count bytes stamps last now k moment long added rising goes t lt e new_is long_is added_is moment_is goes_is =
    let b : ℕ = bytes + payload_bytes (drop count ps) in
    let s : ℕ = stamps + k * now in
    let g : Bool = goes_on count last now rising in
    let many : long ≡ length ps = long_is ∙ ap length new_is ∙ length-map ps (with_stamp now) in
    subst (λ h. Totals new long (bytes + added) (stamps + k * moment) now h) (sym goes_is)
    (subst (λ m. Totals new long (bytes + added) (stamps + k * m) now g) (sym moment_is)
    (subst (λ a. Totals new long (bytes + a) s now g) (sym added_is)
    (subst (λ n. Totals new n b s now g) (sym many)
    (subst (λ l. Totals l (length ps) b s now g) (sym new_is)
    (ticked ps count bytes stamps last now k rising t lt e)))))

-- the sums without the first packet
pub popped : (p : RtpPacket) (ps : List RtpPacket) (count bytes stamps last t : ℕ) (rising : Bool) → Totals (p ∷ ps) count bytes stamps last rising → p.timestamp ≡ Some t → Totals ps (count - 1) (bytes - length p.payload) (stamps - t) last rising
popped p ps zero bytes stamps last t rising totals e =
    let none : p.timestamp ≡ None = none_is p.timestamp (first (is_none p.timestamp) (are_stamped zero ps) totals.in_front) in
    absurd cc
popped p ps (suc n) bytes stamps last t rising totals e =
    let less : suc n - 1 ≡ n = omega arith in
    let b : payload_bytes (stamped (p ∷ ps)) ≡ length p.payload + payload_bytes (stamped ps) = ap payload_bytes (keep p ps t e) ∙ bytes_cons p (stamped ps) in
    let s : sum (stamps_of (p ∷ ps)) ≡ t + sum (stamps_of ps) = ap sum (keep_stamp p ps t e) ∙ sum_cons t (stamps_of ps) in
    record {
      in_front = subst (λ k. are_stamped k ps ≡ true) (sym less) (second (is_some p.timestamp) (are_stamped n ps) totals.in_front);
      all_bytes = omega arith;
      all_stamps = omega arith;
      rise = λ r. (subst (RiseTo last) (keep_stamp p ps t e) (totals.rise r)).2;
      summable = totals.summable.1;
    }

-- where no stamp is above now, the waits are a difference
pub waits_are : (m now : ℕ) (ts : List ℕ) → RiseTo m ts → m ≤ now → waits now ts + sum ts ≡ length ts * now
waits_are m now [] h le = omega arith
waits_are m now (t ∷ ts) h le =
    let low : t ≤ m = h.0 in
    let w : waits now (t ∷ ts) ≡ (now - t) + waits now ts = waits_cons now t ts in
    let s : sum (t ∷ ts) ≡ t + sum ts = sum_cons t ts in
    let more : suc (length ts) * now ≡ length ts * now + now = suc-mul (length ts) now in
    let rest : waits now ts + sum ts ≡ length ts * now = waits_are m now ts h.2 le in
    omega arith

pub sooner_assoc : (a b c : Option ℕ) → earlier (earlier a b) c ≡ earlier a (earlier b c)
sooner_assoc None b c = refl
sooner_assoc (Some t) None c = refl
sooner_assoc (Some t) (Some u) None = refl
sooner_assoc (Some t) (Some u) (Some v) = ap Some (omega arith)

earliest_low : (t : ℕ) (ts : List ℕ) → AllByRecursion (λ u. t ≤ u) ts → earlier (Some t) (earliest_of ts) ≡ Some t
earliest_low t [] h = refl
earliest_low t (u ∷ us) h =
    let low : t ≤ u = h.0 in
    let least : min t u ≡ t = omega arith in
    sym (sooner_assoc (Some t) (Some u) (earliest_of us)) ∙ ap (λ v. earlier (Some v) (earliest_of us)) least ∙ earliest_low t us h.1

-- where the stamps rise, the first is the earliest
pub earliest_is : (n m : ℕ) (ps : List RtpPacket) → are_stamped n ps ≡ true → RiseTo m (stamps_of ps) → earliest_of (stamps_of ps) ≡ first_stamp ps
earliest_is zero m [] h r = refl
earliest_is (suc n) m [] h r = absurd cc
earliest_is zero m (p ∷ ps) h r = ap earliest_of (no_stamps (p ∷ ps) h) ∙ sym (none_is p.timestamp (first (is_none p.timestamp) (are_stamped zero ps) h))
earliest_is (suc n) m (p ∷ ps) h r =
    let s = some_is p.timestamp (first (is_some p.timestamp) (are_stamped n ps) h) in
    let stamps = keep_stamp p ps s.0 s.1 in
    ap earliest_of stamps ∙ earliest_low s.0 (stamps_of ps) (subst (RiseTo m) stamps r).1 ∙ sym s.1

pub in_order : (ps : List RtpPacket) (count bytes stamps last now moment : ℕ) (rising : Bool) → Totals ps count bytes stamps last rising → rising ≡ true → last ≤ now → moment ≡ now → waits now (stamps_of ps) + stamps ≡ count * moment
in_order ps count bytes stamps last now moment rising t r le same =
    let e : waits now (stamps_of ps) + sum (stamps_of ps) ≡ length (stamps_of ps) * now = waits_are last now (stamps_of ps) (t.rise r) le in
    ap (λ s. waits now (stamps_of ps) + s) t.all_stamps ∙ e
    ∙ ap (λ n. n * now) (as_many ps ∙ count_is count ps t.in_front) ∙ ap (λ m. count * m) (sym same)

pub snapshot_is : (ps : List RtpPacket) (count bytes stamps last now : ℕ) (rising : Bool) (last_emitted : Option ℕ) (size many total : ℕ) (first_unsent : Option ℕ) (priority : QueuePriority) → Totals ps count bytes stamps last rising → size ≡ min bytes (2 ^ 64 - 1) → many ≡ min count (2 ^ 32 - 1) → total ≡ min (waits now (stamps_of ps)) (2 ^ 64 - 1) → first_unsent ≡ earliest_of (stamps_of ps) → priority ≡ (if count == 0 then Empty else Media) → ◌≡◌ {A = QueueSnapshot} (record { created_at = now; byte_size = size; packet_count = many; total_queue_time_origin = total; last_emitted = last_emitted; first_unsent = first_unsent; priority = priority }) (snapshot_of now last_emitted ps)
snapshot_is ps count bytes stamps last now rising last_emitted size many total first_unsent priority t size_is many_is total_is first_is priority_is =
    let number : count ≡ length (stamped ps) = sym (count_is count ps t.in_front) in
    let all_size : size ≡ min (payload_bytes (stamped ps)) (2 ^ 64 - 1) = size_is ∙ ap (λ n. min n (2 ^ 64 - 1)) t.all_bytes in
    let all_many : many ≡ min (length (stamped ps)) (2 ^ 32 - 1) = many_is ∙ ap (λ n. min n (2 ^ 32 - 1)) number in
    let which : priority ≡ (if length (stamped ps) == 0 then Empty else Media) = priority_is ∙ ap (λ (n : ℕ). if n == 0 then Empty else Media) number in
    λ i. record { created_at = now; byte_size = all_size i; packet_count = all_many i; total_queue_time_origin = total_is i; last_emitted = last_emitted; first_unsent = first_is i; priority = which i }

-- the waits and the earliest stamp with one packet more
pub waits_more : (now : ℕ) (o : Option ℕ) (ts : List ℕ) → waits now (cons_option o ts) ≡ option_map_or (λ t. now - t) o 0 + waits now ts
waits_more now None ts = omega arith
waits_more now (Some t) ts = waits_cons now t ts

pub earliest_more : (o : Option ℕ) (ts : List ℕ) → earliest_of (cons_option o ts) ≡ earlier o (earliest_of ts)
earliest_more None ts = refl
earliest_more (Some t) ts = refl

-- sums that their types hold
pub bytes_fit : (ps : List RtpPacket) (count bytes stamps last : ℕ) (rising : Bool) → Totals ps count bytes stamps last rising → length ps < 2 ^ 64 → bytes < 2 ^ 128
bytes_fit ps count bytes stamps last rising t lt =
    let few : payload_bytes (stamped ps) ≤ 1400 * length ps = few_bytes ps t.summable in
    let are : bytes ≡ payload_bytes (stamped ps) = t.all_bytes in
    omega arith

pub stamps_fit : (ps : List RtpPacket) (count bytes stamps last : ℕ) (rising : Bool) → Totals ps count bytes stamps last rising → length ps < 2 ^ 64 → stamps < 2 ^ 128
stamps_fit ps count bytes stamps last rising t lt =
    let low : sum (stamps_of ps) ≤ (2 ^ 64 - 1) * length ps = low_stamps ps t.summable in
    let are : stamps ≡ sum (stamps_of ps) = t.all_stamps in
    omega arith

pub popped_so : (ps new : List RtpPacket) (seen front : RtpPacket) (count bytes stamps last stamp long moment : ℕ) (rising : Bool) → Totals ps count bytes stamps last rising → ps ≡ front ∷ new → seen ≡ get_or ps 0 seen → seen.timestamp ≡ Some stamp → long ≡ length front.payload → moment ≡ stamp → Totals new (count - 1) (bytes - long) (stamps - moment) last rising
popped_so ps new seen front count bytes stamps last stamp long moment rising t parts seen_is stamp_is long_is moment_is =
    let same : seen ≡ front = seen_is ∙ ap (λ l. get_or l 0 seen) parts in
    let front_stamp : front.timestamp ≡ Some stamp = subst (λ (p : RtpPacket). p.timestamp ≡ Some stamp) same stamp_is in
    subst (λ n. Totals new (count - 1) (bytes - n) (stamps - moment) last rising) (sym long_is)
    (subst (λ m. Totals new (count - 1) (bytes - length front.payload) (stamps - m) last rising) (sym moment_is)
    (popped front new count bytes stamps last stamp rising (subst (λ l. Totals l count bytes stamps last rising) parts t) front_stamp))

-- a packet of a list of which the ones before a place are stamped
pub same_at : (now : ℕ) (xs ys : List RtpPacket) (i : ℕ) (x : RtpPacket) → i < length xs → ys ≡ map (with_stamp now) (take i xs) ++ drop i xs → x ≡ get_or ys i x → x ≡ get_or xs i x
same_at now xs ys i x lt h is =
    let before : List RtpPacket = map (with_stamp now) (take i xs) in
    let long : length before ≡ i = length-map (take i xs) (with_stamp now) ∙ omega (arith, length-take i xs) in
    let parts : ys ≡ before ++ get_or xs i x ∷ drop (i + 1) xs = h ∙ ap (λ l. before ++ l) (drop_more xs i x lt) in
    is ∙ ap (λ l. get_or l i x) parts ∙ get_or_at before _ _ x i long

more_is : (xs : List RtpPacket) (i : ℕ) (x : RtpPacket) → i < length xs → x ≡ get_or xs i x → drop i xs ≡ x ∷ drop (i + 1) xs
more_is xs i x lt is = drop_more xs i x lt ∙ ap (λ y. y ∷ drop (i + 1) xs) (sym is)

pub bytes_at : (xs : List RtpPacket) (i : ℕ) (x : RtpPacket) → i < length xs → x ≡ get_or xs i x → payload_bytes (drop i xs) ≡ length x.payload + payload_bytes (drop (i + 1) xs)
bytes_at xs i x lt is = ap payload_bytes (more_is xs i x lt is) ∙ bytes_cons x (drop (i + 1) xs)

pub waits_at : (now : ℕ) (xs : List RtpPacket) (i : ℕ) (x : RtpPacket) → i < length xs → x ≡ get_or xs i x → waits now (stamps_of (drop i xs)) ≡ option_map_or (λ t. now - t) x.timestamp 0 + waits now (stamps_of (drop (i + 1) xs))
waits_at now xs i x lt is = ap (λ l. waits now (stamps_of l)) (more_is xs i x lt is) ∙ waits_more now x.timestamp (stamps_of (drop (i + 1) xs))

pub earliest_at : (xs : List RtpPacket) (i : ℕ) (x : RtpPacket) → i < length xs → x ≡ get_or xs i x → earliest_of (stamps_of (drop i xs)) ≡ earlier x.timestamp (earliest_of (stamps_of (drop (i + 1) xs)))
earliest_at xs i x lt is = ap (λ l. earliest_of (stamps_of l)) (more_is xs i x lt is) ∙ earliest_more x.timestamp (stamps_of (drop (i + 1) xs))
