-- The loop that reads the items of a datagram.
use Rattle.std.proofs.Common.{◌≡◌, ℕ, suc, ◌+◌, ◌-◌, ◌/◌, ◌<◌, List, [], ◌++◌, length, take, Option, Some, None, refl, sym, ap, ◌∙◌, append_assoc, arith}
use Rattle.std.specs.Option.{option_map_or}
use Rattle.std.proofs.lemmas.List.{append-nil, take_at}
use Rattle.rtcp_wire.specs.declared.packet.Rtcp.{Rtcp}
use Rattle.rtcp_wire.specs.Items.{item_at, items_within, items_of, added_of, rest_of}

-- the items read so far are the first of all, and those of the rest are the others
pub record IsRead (old now : List Rtcp) (left : ℕ) (rest : List ℕ) (all : List Rtcp) : Type 0 where
  pub front : List Rtcp
  pub so_far : now ≡ old ++ front
  pub others : front ++ items_within left rest ≡ all

one_more : (n : ℕ) (o : Option (List Rtcp × List ℕ)) (after : List ℕ) → rest_of o ≡ Some after → option_map_or (λ x. x.0 ++ items_within n x.1) o [] ≡ added_of o ++ items_within n after
one_more n None after e = absurd cc
one_more n (Some x) after e = let same : x.1 ≡ after = cc in rw same refl

pub read_more : (old now new : List Rtcp) (len i : ℕ) (rest after : List ℕ) (all : List Rtcp) → i < len → rest_of (item_at rest) ≡ Some after → new ≡ now ++ added_of (item_at rest)
    → IsRead old now (len - i) rest all → IsRead old new (len - (i + 1)) after all
read_more old now new len i rest after all lt e added h =
    let k : len - i ≡ suc (len - (i + 1)) = omega arith in
    let others = rw k at h.others in
    record {
      front = h.front ++ added_of (item_at rest);
      so_far = added ∙ ap (λ (x : List Rtcp). x ++ added_of (item_at rest)) h.so_far ∙ append_assoc old h.front (added_of (item_at rest));
      others = append_assoc h.front (added_of (item_at rest)) (items_within (len - (i + 1)) after) ∙ ap (λ (x : List Rtcp). h.front ++ x) (sym (one_more (len - (i + 1)) (item_at rest) after e)) ∙ others;
    }

pub read_fails : (old now : List Rtcp) (left : ℕ) (rest : List ℕ) (all : List Rtcp) → IsRead old now left rest all → (n : ℕ) × (now ≡ old ++ take n all)
read_fails old now left rest all h =
    (length h.front, h.so_far ∙ ap (λ (x : List Rtcp). old ++ x) (sym (ap (take (length h.front)) (sym h.others) ∙ take_at h.front (items_within left rest) (length h.front) refl)))

pub read_starts : (old : List Rtcp) (bytes : List ℕ) → IsRead old old (length bytes / 4 - 0) bytes (items_of bytes)
unfolding items_of
read_starts old bytes = let k : length bytes / 4 - 0 ≡ length bytes / 4 = omega arith in record { front = []; so_far = sym (append-nil old); others = rw k refl }
