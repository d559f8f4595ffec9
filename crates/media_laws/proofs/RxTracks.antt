-- The record of an incoming stream holds the lists that are read off the events, and no number is yielded twice.
use Rattle.std.proofs.Common.{◌≡◌, inl, inr, ℕ, ◌+◌, ◌≤◌, true, List, [], ◌∷◌, ◌++◌, map, Option, Some, None, refl, sym, ap, ◌∙◌, arith}
use Rattle.std.specs.Prelude.{not, nat_eq, nat_lt, if◌then◌else◌}
use Rattle.std.specs.List.{fold, list_all, list_any}
use Rattle.std.proofs.lemmas.List.Sums.{fold-append}
use Rattle.std.proofs.lemmas.Bool.{and_parts, or_cases, ltb-true, eq-eqb, false≢true, not-true}
use Rattle.repair_core.specs.Fresh.{greatest, greatest_of, is_fresh, with_number}
use Rattle.repair_core.specs.Rounds.{Heard, came, taken}
use Rattle.rtp_base.specs.declared.kind.Kind.TheVariants.{Rtp}
use Rattle.media_model.specs.declared.entry.Packet.{Packet}
use Rattle.run_model.specs.Events.{Plain, Event, ticked, got, sealed, opened, yielded, Types, Incoming}
use Rattle.run_model.specs.Listing.{IsIn}
use Rattle.run_model.specs.Seals.{Sealing}
use Rattle.run_model.specs.TxPlay.{is_sealing}
use Rattle.run_model.specs.Receiving.{Lists, no_lists, is_repair, begun_with, begun_taken, restored, with_restored, after_first, after_opened, list_step, lists, yields, is_fresh_number}
use Rattle.run_model.specs.RxPlay.{RxRecord, taken_in, lists_in, register, rx_first, rx_tried, rx_restored, rx_opened, asked_in, IsAside, AreAside, RxStep, opens, ticks, passes, RxPlays, begun, step}
use Rattle.run_model.specs.RxLaws.{RecordsHoldLists}
use Rattle.media_laws.proofs.Lists.{any-from_in, tested}

-- a fresh number is not taken

in_greatest : (xs : List ℕ) (n : ℕ) → IsIn n xs → n ≤ greatest xs
in_greatest [] n h = absurd h
in_greatest (x ∷ xs) n (inl e) = omega arith
in_greatest (x ∷ xs) n (inr h) = let less = in_greatest xs n h in omega arith

pub fresh_new : (xs : List ℕ) (n : ℕ) → is_fresh xs n ≡ true → IsIn n xs → ⊥
fresh_new [] n e h = h
fresh_new (x ∷ xs) n e h =
    elim (or_cases (nat_lt (greatest (x ∷ xs)) n) _ e) [
      | inl t ↦ let less = in_greatest (x ∷ xs) n h in let more = ltb-true (greatest (x ∷ xs)) n t in absurd (omega (arith, less, more))
      | inr t ↦ false≢true (sym (not-true _ (and_parts (not (list_any (nat_eq n) (x ∷ xs))) _ t).0) ∙ any-from_in (nat_eq n) n (x ∷ xs) h (eq-eqb n n refl))
    ]

pub with_fresh : (l : List ℕ) (n : ℕ) → is_fresh l n ≡ true → with_number l n ≡ l ++ n ∷ []
with_fresh l n is = rw is refl

-- the record

-- a register that was made has taken a number
abbrev pub HasBegun : Option Heard → Type 0
HasBegun None = Unit {0}
HasBegun (Some h) = taken h ≡ [] → ⊥

with_number_some : (l : List ℕ) (n : ℕ) → with_number l n ≡ [] → ⊥
with_number_some [] n e = absurd cc
with_number_some (x ∷ xs) n e = elim (tested (is_fresh (x ∷ xs) n)) [ inl t ↦ absurd (let not_so : x ∷ (xs ++ n ∷ []) ≡ [] = sym (with_fresh (x ∷ xs) n t) ∙ e in cc) | inr t ↦ absurd (let not_so : x ∷ xs ≡ [] = sym (ap (λ b. if b then (x ∷ xs) ++ n ∷ [] else x ∷ xs) t) ∙ e in cc) ]

begun_again : (seen : Option ℕ) (l : List ℕ) → (l ≡ [] → ⊥) → begun_with seen l ≡ l
begun_again seen [] some = absurd (some refl)
begun_again seen (n ∷ ns) some = refl

register_takes : (seen : List ℕ) (numbers : Option Heard) → HasBegun numbers → taken (register seen numbers) ≡ begun_with (greatest_of seen) (taken_in numbers)
register_takes seen None h = refl
register_takes seen (Some h) some = sym (begun_again (greatest_of seen) (taken h) some)

pub record RxTracks (T : Types) (L : Incoming) (events : List Event) (x : RxRecord) : Type 0 where
  pub same : lists T L events ≡ lists_in x
  pub begins : HasBegun x.numbers

first_same : (x : RxRecord) (pause n : ℕ) → HasBegun x.numbers → is_fresh (begun_taken (lists_in x)) n ≡ true → after_first (lists_in x) n ≡ lists_in (rx_first pause n x)
first_same x pause n some fresh =
    let takes : begun_taken (lists_in x) ++ n ∷ [] ≡ taken (came (register x.seen_main x.numbers) n) =
    sym (with_fresh (begun_taken (lists_in x)) n fresh) ∙ ap (λ l. with_number l n) (sym (register_takes x.seen_main x.numbers some)) in
    ap (λ l. let z : Lists = record { seen_main = x.seen_main ++ n ∷ []; seen_rtx = x.seen_rtx; tried = x.tried; floor = x.floor; taken = l } in z) takes

restored_same : (y : RxRecord) (q : Option ℕ) → HasBegun y.numbers → with_restored (lists_in y) q ≡ lists_in (rx_restored q y)
restored_same y None some = refl
restored_same y (Some q) some =
    elim (tested (is_fresh (begun_taken (lists_in y)) q)) [
      | inl t ↦ rw t (ap (λ l. let z : Lists = record { seen_main = y.seen_main ++ q ∷ []; seen_rtx = y.seen_rtx; tried = y.tried; floor = y.floor; taken = l } in z) (takes t))
      | inr t ↦ rw t refl
    ]
  where
    takes : is_fresh (begun_taken (lists_in y)) q ≡ true → begun_taken (lists_in y) ++ q ∷ [] ≡ taken (came (register y.seen_main y.numbers) q)
    takes t = sym (with_fresh (begun_taken (lists_in y)) q t) ∙ ap (λ l. with_number l q) (sym (register_takes y.seen_main y.numbers some))

pub opened_same : (T : Types) (L : Incoming) (x : RxRecord) (pause ssrc n : ℕ) (p : Plain) → HasBegun x.numbers → is_fresh_number T L (lists_in x) ssrc p n ≡ true
    → after_opened T L (lists_in x) ssrc n p ≡ lists_in (rx_opened T L pause ssrc n p x)
opened_same T L x pause ssrc n p some fresh =
    elim (tested (is_repair T L ssrc p)) [
      | inl t ↦ rw t (restored_same (rx_tried L pause ssrc n x) (restored L (lists_in x) ssrc n p) some)
      | inr t ↦ rw t (first_same x pause n some (rw t at fresh))
    ]

opened_begun : (T : Types) (L : Incoming) (x : RxRecord) (pause ssrc n : ℕ) (p : Plain) → HasBegun x.numbers → HasBegun (rx_opened T L pause ssrc n p x).numbers
opened_begun T L x pause ssrc n p some =
    elim (tested (is_repair T L ssrc p)) [
      | inl t ↦ rw t (after (restored L (lists_in x) ssrc n p))
      | inr t ↦ rw t (with_number_some (taken (register x.seen_main x.numbers)) n)
    ]
  where
    after : (q : Option ℕ) → HasBegun (rx_restored q (rx_tried L pause ssrc n x)).numbers
    after None = some
    after (Some q) =
        elim (tested (is_fresh (begun_taken (lists_in (rx_tried L pause ssrc n x))) q)) [
          | inl t ↦ rw t (with_number_some (taken (register (rx_tried L pause ssrc n x).seen_main x.numbers)) q)
          | inr t ↦ rw t some
        ]

-- events that leave the lists as they are

yields_quiet : (T : Types) (L : Incoming) (ps : List Packet) (l : Lists) → fold (list_step T L) l (map yielded ps) ≡ l
yields_quiet T L [] l = refl
yields_quiet T L (p ∷ ps) l = yields_quiet T L ps l

sealings_quiet : (T : Types) (L : Incoming) (new : List Event) (l : Lists) → list_all is_sealing new ≡ true → fold (list_step T L) l new ≡ l
sealings_quiet T L [] l all = refl
sealings_quiet T L (e ∷ new) l all = let parts = and_parts (is_sealing e) (list_all is_sealing new) all in ap (λ k. fold (list_step T L) k new) (one e parts.0) ∙ sealings_quiet T L new l parts.1
  where
    one : (e : Event) → is_sealing e ≡ true → list_step T L l e ≡ l
    one (opened ssrc n p) is = absurd (false≢true is)
    one (sealed ssrc n p bytes) is = refl
    one _ is = refl

lists_after : (T : Types) (L : Incoming) (events new : List Event) → lists T L (events ++ new) ≡ fold (list_step T L) (lists T L events) new
lists_after T L events new = fold-append (list_step T L) no_lists events new

aside_same : (T : Types) (L : Incoming) (e : Event) (l : Lists) → IsAside L e → list_step T L l e ≡ l
aside_same T L (opened ssrc n p) l is = rw is refl
aside_same T L (sealed ssrc n p bytes) l is = refl
aside_same T L _ l is = refl

asides_same : (T : Types) (L : Incoming) (new : List Event) (l : Lists) → AreAside L new → fold (list_step T L) l new ≡ l
asides_same T L [] l all = refl
asides_same T L (e ∷ new) l all = ap (λ k. fold (list_step T L) k new) (aside_same T L e l all.0) ∙ asides_same T L new l all.1

pub ticked_same : (time : ℕ) (asks : Option ℕ) (numbers : Option Heard) → (taken_in (asked_in time asks numbers) ≡ taken_in numbers) × (HasBegun numbers → HasBegun (asked_in time asks numbers))
ticked_same time None numbers = (refl, λ h. h)
ticked_same time (Some wait) None = (refl, λ h. h)
ticked_same time (Some wait) (Some heard) = (refl, λ h. h)

pub rx_step_tracks : {T : Types} {L : Incoming} {peer : Sealing} {threshold : ℕ} {x y : RxRecord} {new : List Event} (events : List Event) → RxStep T L peer threshold x y new → RxTracks T L events x → RxTracks T L (events ++ new) y
rx_step_tracks {T} {L} {threshold = threshold} {x = x} events (opens time bytes ssrc n p o) h = record {
  same =
      lists_after T L events (got time Rtp bytes ∷ opened ssrc n p ∷ map yielded (yields T L (lists_in x) ssrc n p))
      ∙ ap (λ l. fold (list_step T L) (list_step T L l (opened ssrc n p)) (map yielded (yields T L (lists_in x) ssrc n p))) h.same
      ∙ yields_quiet T L (yields T L (lists_in x) ssrc n p) (list_step T L (lists_in x) (opened ssrc n p))
      ∙ ap (λ b. if b then after_opened T L (lists_in x) ssrc n p else lists_in x) o.mine
      ∙ opened_same T L x (time + threshold) ssrc n p h.begins o.fresh;
  begins = opened_begun T L x (time + threshold) ssrc n p h.begins;
}
rx_step_tracks {T} {L} {x = x} events (ticks time asks new all) h = record {
  same =
      lists_after T L events (ticked time ∷ new) ∙ sealings_quiet T L new (lists T L events) all ∙ h.same
      ∙ ap (λ l. let z : Lists = record { seen_main = x.seen_main; seen_rtx = x.seen_rtx; tried = x.tried; floor = x.floor; taken = l } in z) (sym (ticked_same time asks x.numbers).0);
  begins = (ticked_same time asks x.numbers).1 h.begins;
}
rx_step_tracks {T} {L} events (passes new aside) h = record { same = lists_after T L events new ∙ asides_same T L new (lists T L events) aside ∙ h.same; begins = h.begins }

pub rx_tracks : {T : Types} {L : Incoming} {peer : Sealing} {threshold : ℕ} {x : RxRecord} {events : List Event} → RxPlays T L peer threshold x events → RxTracks T L events x
rx_tracks begun = record { same = refl; begins = tt }
rx_tracks (step {events = events} h s) = rx_step_tracks events s (rx_tracks h)

pub records_hold_lists : RecordsHoldLists
records_hold_lists T L peer threshold x events h = (rx_tracks h).same
