-- Packets of which the first have a stamp, and the others none.
use Rattle.std.proofs.Common.{◌≡◌, ℕ, zero, suc, ◌≤◌, Bool, true, false, List, [], ◌∷◌, ◌++◌, Option, Some, None, is_some, length, map, take, refl, sym, ap, ◌∙◌, arith}
use Rattle.std.specs.Prelude.{◌&&◌, ◌||◌, is_none, nat_lt}
use Rattle.std.proofs.lemmas.Bool.Decides.{nat_tests}
use Rattle.stream_core.specs.declared.packet.RtpPacket.{RtpPacket}
use Rattle.stream_core.specs.Queue.{with_stamp, stamp_of, needs_tick, are_stamped}

pub first : (a b : Bool) → (a && b) ≡ true → a ≡ true
first true b h = refl
first false b h = h

pub second : (a b : Bool) → (a && b) ≡ true → b ≡ true
second true b h = h
second false b h = absurd cc

-- there are as many
pub stamped_length : (n : ℕ) (ps : List RtpPacket) → are_stamped n ps ≡ true → n ≤ length ps
stamped_length zero ps h = omega arith
stamped_length (suc n) [] h = absurd cc
stamped_length (suc n) (p ∷ ps) h = let rest = stamped_length n ps (second (is_some p.timestamp) (are_stamped n ps) h) in omega arith

same_stamp : (now : ℕ) (o : Option ℕ) → is_some o ≡ true → stamp_of now o ≡ o
same_stamp now None h = absurd cc
same_stamp now (Some t) h = refl

-- a packet with a stamp keeps it
pub stamped_again : (now n : ℕ) (ps : List RtpPacket) → are_stamped n ps ≡ true → map (with_stamp now) (take n ps) ≡ take n ps
stamped_again now zero ps h = refl
stamped_again now (suc n) [] h = refl
stamped_again now (suc n) (p ∷ ps) h =
    let same = same_stamp now p.timestamp (first (is_some p.timestamp) (are_stamped n ps) h) in
    let rest = stamped_again now n ps (second (is_some p.timestamp) (are_stamped n ps) h) in
    λ i. record p { timestamp = same i } ∷ rest i

some_stamp : (now : ℕ) (o : Option ℕ) → is_some (stamp_of now o) ≡ true
some_stamp now None = refl
some_stamp now (Some t) = refl

-- after a tick all have one
pub all_stamped : (now : ℕ) (ps : List RtpPacket) → are_stamped (length ps) (map (with_stamp now) ps) ≡ true
all_stamped now [] = refl
all_stamped now (p ∷ ps) = (λ i. some_stamp now p.timestamp i && are_stamped (length ps) (map (with_stamp now) ps)) ∙ all_stamped now ps

no_stamp : (p : RtpPacket) → p.timestamp ≡ None → are_stamped zero (p ∷ []) ≡ true
no_stamp p h = ap (λ o. is_none o && true) h

-- one more packet without a stamp
pub stamped_push : (n : ℕ) (ps : List RtpPacket) (p : RtpPacket) → are_stamped n ps ≡ true → p.timestamp ≡ None → are_stamped n (ps ++ p ∷ []) ≡ true
stamped_push zero [] p h e = no_stamp p e
stamped_push (suc n) [] p h e = absurd cc
stamped_push zero (q ∷ qs) p h e =
    (λ i. first (is_none q.timestamp) (are_stamped zero qs) h i && are_stamped zero (qs ++ p ∷ [])) ∙ stamped_push zero qs p (second (is_none q.timestamp) (are_stamped zero qs) h) e
stamped_push (suc n) (q ∷ qs) p h e =
    (λ i. first (is_some q.timestamp) (are_stamped n qs) h i && are_stamped n (qs ++ p ∷ [])) ∙ stamped_push n qs p (second (is_some q.timestamp) (are_stamped n qs) h) e

not_none : (o : Option ℕ) → is_some o ≡ true → is_none o ≡ false
not_none None h = absurd cc
not_none (Some t) h = refl

more_left : (n : ℕ) (ps : List RtpPacket) → nat_lt (suc n) (suc (length ps)) ≡ nat_lt n (length ps)
more_left n ps = grind (arith, nat_tests)

-- fewer are stamped than there are exactly where some packet has no stamp
pub stamped_fewer : (n : ℕ) (ps : List RtpPacket) → are_stamped n ps ≡ true → nat_lt n (length ps) ≡ needs_tick ps
stamped_fewer zero [] h = refl
stamped_fewer (suc n) [] h = absurd cc
stamped_fewer zero (p ∷ ps) h =
    let some : nat_lt zero (length (p ∷ ps)) ≡ true = grind (arith, nat_tests) in
    some ∙ sym (λ i. first (is_none p.timestamp) (are_stamped zero ps) h i || needs_tick ps)
stamped_fewer (suc n) (p ∷ ps) h =
    more_left n ps
    ∙ stamped_fewer n ps (second (is_some p.timestamp) (are_stamped n ps) h)
    ∙ sym (λ i. not_none p.timestamp (first (is_some p.timestamp) (are_stamped n ps) h) i || needs_tick ps)

kept_step : (now : ℕ) (o : Option ℕ) (b : Bool) → (is_none o || b) ≡ false → (stamp_of now o ≡ o) × (b ≡ false)
kept_step now None b h = absurd cc
kept_step now (Some t) b h = (refl, h)

-- where no packet waits for a stamp, a tick changes nothing
pub none_to_stamp : (now : ℕ) (ps : List RtpPacket) → needs_tick ps ≡ false → map (with_stamp now) ps ≡ ps
none_to_stamp now [] h = refl
none_to_stamp now (p ∷ ps) h =
    let both = kept_step now p.timestamp (needs_tick ps) h in
    let rest = none_to_stamp now ps both.1 in
    λ i. record p { timestamp = both.0 i } ∷ rest i
