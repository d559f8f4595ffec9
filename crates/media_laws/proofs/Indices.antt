-- No two RTCP datagrams of a direction share an index.
use Rattle.std.proofs.Common.{◌≡◌, inl, inr, ℕ, ◌+◌, ◌≤◌, false, List, [], ◌∷◌, ◌++◌, length, map, refl, sym, ap, ◌∙◌, subst, arith}
use Rattle.std.specs.List.{flat_map}
use Rattle.std.proofs.lemmas.List.Concat.{flat_map-append}
use Rattle.media_model.specs.declared.entry.Packet.{Packet}
use Rattle.run_model.specs.Events.{Event, ticked, yielded}
use Rattle.run_model.specs.Listing.{IsIn, NoRepeat}
use Rattle.run_model.specs.Receiving.{yields}
use Rattle.run_model.specs.RxPlay.{lists_in}
use Rattle.media_model.specs.declared.entry.Side.{Side}
use Rattle.media_model.specs.declared.entry.Side.TheVariants.{A, B}
use Rattle.media_model.specs.Sides.{same_side}
use Rattle.run_model.specs.Runs.{Happening, events_of, on_side}
use Rattle.run_model.specs.Tables.{Table}
use Rattle.run_model.specs.Whole.{Config, Session, index_of, indices, Counts, Turns, writes, ticks, calls, requests, opens, hears, stays, Played, begun, of_a, of_b, session_of, CutsOff, at_step, in_tick, RunsRepeatNoIndex}
use Rattle.media_laws.proofs.RunYields.{events_more, events_same}

-- numbers that count up are not less than the first, and none stands twice
counts_from : (k : ℕ) (is : List ℕ) (next : ℕ) → Counts k is next → (x : ℕ) → IsIn x is → k ≤ x
counts_from k [] next h x j = absurd j
counts_from k (i ∷ is) next h x (inl e) = omega (arith, e, h.0)
counts_from k (i ∷ is) next h x (inr j) = let r = counts_from (k + 1) is next h.1 x j in omega (arith, r)

counts_once : (k : ℕ) (is : List ℕ) (next : ℕ) → Counts k is next → NoRepeat is
counts_once k [] next h = tt
counts_once k (i ∷ is) next h = (λ j. let r = counts_from (k + 1) is next h.1 i j in absurd (omega (arith, r, h.0)), counts_once (k + 1) is next h.1)

-- they count on, and so there are as many as the last is above the first
pub counts_more : (k : ℕ) (xs ys : List ℕ) (m n : ℕ) → Counts k xs m → Counts m ys n → Counts k (xs ++ ys) n
counts_more k [] ys m n h g = subst (λ j. Counts j ys n) (sym h) g
counts_more k (x ∷ xs) ys m n h g = (h.0, counts_more (k + 1) xs ys m n h.1 g)

pub counts_length : (k : ℕ) (is : List ℕ) (next : ℕ) → Counts k is next → next ≡ k + length is
counts_length k [] next h = omega (arith, h)
counts_length k (i ∷ is) next h = let rest = counts_length (k + 1) is next h.1 in omega (arith, rest)

-- the indices of further events
index_events : (k m n : ℕ) (events new all : List Event) → all ≡ events ++ new → Counts k (indices events) m → Counts m (indices new) n → Counts k (indices all) n
index_events k m n events new all is h g =
    subst (λ xs. Counts k xs n) (sym (ap (flat_map index_of) is ∙ flat_map-append index_of events new)) (counts_more k (indices events) (indices new) m n h g)

same_events : (k n : ℕ) (events all : List Event) → all ≡ events → Counts k (indices events) n → Counts k (indices all) n
same_events k n events all is h = subst (λ es. Counts k (indices es) n) (sym is) h

no_indices : (ps : List Packet) → indices (map yielded ps) ≡ []
no_indices [] = refl
no_indices (p ∷ ps) = no_indices ps

turn_counts : {C : Config} {side : Side} {a b : Session} {new : List Event} → Turns C side a b new → Counts a.rtcp (indices new) b.rtcp
turn_counts (writes time w late unused) = refl
turn_counts (ticks time new next late d f count) = count
turn_counts {C} {a = a} (opens time bytes ssrc n p s late i o) = subst (λ is. Counts a.rtcp is a.rtcp) (sym (no_indices (yields C.types s.0 (lists_in s.1) ssrc n p))) refl
turn_counts (calls time items late others) = (refl, refl)
turn_counts (requests time late) = refl
turn_counts (hears time bytes index items late report h) = refl
turn_counts (stays time kind bytes late out unread) = refl

-- the indices of a side, from its first one to that of its session
counted_a : {C : Config} {a b : Session} {entries : List Happening} → Played C a b entries → Counts (C.first_index A) (indices (events_of A entries)) a.rtcp
counted_a begun = refl
counted_a {C} (of_a {a = a} {c = c} {entries = entries} {new = new} h t) =
    index_events (C.first_index A) a.rtcp c.rtcp (events_of A entries) new _ (events_more A entries new) (counted_a h) (turn_counts t)
counted_a {C} (of_b {a = a} {entries = entries} {new = new} h t) = same_events (C.first_index A) a.rtcp _ _ (events_same A B entries new refl) (counted_a h)

counted_b : {C : Config} {a b : Session} {entries : List Happening} → Played C a b entries → Counts (C.first_index B) (indices (events_of B entries)) b.rtcp
counted_b begun = refl
counted_b {C} (of_a {b = b} {entries = entries} {new = new} h t) = same_events (C.first_index B) b.rtcp _ _ (events_same B A entries new refl) (counted_b h)
counted_b {C} (of_b {b = b} {c = c} {entries = entries} {new = new} h t) =
    index_events (C.first_index B) b.rtcp c.rtcp (events_of B entries) new _ (events_more B entries new) (counted_b h) (turn_counts t)

pub counted : {C : Config} {a b : Session} {entries : List Happening} → Played C a b entries → (side : Side) → Counts (C.first_index side) (indices (events_of side entries)) (session_of side a b).rtcp
counted h A = counted_a h
counted h B = counted_b h

-- and to that which a tick leaves that is cut off
pub counted_cut : {C : Config} {a b : Session} {entries : List Happening} → Played C a b entries → (side : Side) (time : ℕ) (streams : Table) (next : ℕ) (new : List Event)
    → CutsOff C side (session_of side a b) time streams next new → Counts (C.first_index side) (indices (events_of side (entries ++ on_side side (ticked time ∷ new)))) next
counted_cut {C} {a} {b} {entries} h side time streams next new cut =
    index_events (C.first_index side) (session_of side a b).rtcp next (events_of side entries) (ticked time ∷ new) _ (events_more side entries (ticked time ∷ new)) (counted h side) cut.counts

-- of the side that does not tick
cut_beside : {C : Config} {a b : Session} {entries : List Happening} → Played C a b entries → (side by : Side) (new : List Event) → same_side side by ≡ false
    → NoRepeat (indices (events_of side (entries ++ on_side by new)))
cut_beside {C} {a} {b} {entries} h side by new other =
    subst (λ es. NoRepeat (indices es)) (sym (events_same side by entries new other)) (counts_once (C.first_index side) (indices (events_of side entries)) (session_of side a b).rtcp (counted h side))

pub runs_repeat_no_index : RunsRepeatNoIndex
runs_repeat_no_index C entries (at_step {a = a} {b = b} h) side = counts_once (C.first_index side) (indices (events_of side entries)) (session_of side a b).rtcp (counted h side)
runs_repeat_no_index C entries (in_tick h A time streams next new cut) A = counts_once (C.first_index A) _ next (counted_cut h A time streams next new cut)
runs_repeat_no_index C entries (in_tick h A time streams next new cut) B = cut_beside h B A (ticked time ∷ new) refl
runs_repeat_no_index C entries (in_tick h B time streams next new cut) A = cut_beside h A B (ticked time ∷ new) refl
runs_repeat_no_index C entries (in_tick h B time streams next new cut) B = counts_once (C.first_index B) _ next (counted_cut h B time streams next new cut)
