-- What a reordering buffer stands for is carried on by each call.
use Rattle.std.proofs.Common.{◌≡◌, ℕ, ◌+◌, ◌<◌, ◌≤◌, Bool, true, false, List, [], ◌∷◌, ◌++◌, Option, Some, None, Result, refl, sym, ap, ◌∙◌, arith, eqb, leb, ◌⊎◌, inl, inr}
use Rattle.std.specs.Prelude.{◌||◌, is_some, slice_get, if◌then◌else◌}
use Rattle.std.specs.Ordering.{nat_cmp}
use Rattle.std.specs.BTreeMap.{insert_entry}
use Rattle.std.specs.BTreeSet.{insert_key}
use Rattle.std.specs.Option.{option_or, option_map, option_map_or, option_and_then}
use Rattle.std.proofs.lemmas.List.{append-nil}
use Rattle.std.proofs.lemmas.Bool.{eq-eqb, ne_eqb, le-leb, lt-leb, cases_lt, cases_order}
use Rattle.payload_core.specs.declared.buffer.Arrival.{Arrival}
use Rattle.payload_core.specs.declared.buffer.Depacketized.{Depacketized}
use Rattle.payload_core.specs.declared.error.PacketError.{PacketError}
use Rattle.payload_core.specs.declared.payload.CodecDepacketizer.{CodecDepacketizer}
use Rattle.payload_core.specs.Buffer.{settled, is_next}
use Rattle.payload_core.specs.Reordering.{nothing_waits, is_passed, is_known, with_packet, with_padding, is_late, turn_of, frame_of, popped, without_first, after_pop}
use Rattle.payload_core.specs.Waiting.{Waiting}
use Rattle.payload_core.specs.History.{Event, pushed, padded, given, push_under, first_push, packet_of, is_padding, number_given, last_given, IsPassedUpTo, IsLast, waiting_under, is_kept, Rise, NumbersRise, StandsFor, given_now, IsFront, is_due, NothingIsDue, GivesByRule}
use Rattle.payload_core.proofs.Entries.{under, among, under_head, under_tail, under_below, under_inserted, under_others, rise_inserted, rise_later, among_inserted, among_others, numbers_rise_inserted}
use Rattle.payload_core.proofs.Settling.{Settles, settles}

or_none : {A : Type 0} (o : Option A) → option_or o None ≡ o
or_none None = refl
or_none (Some x) = refl

or_assoc : {A : Type 0} (o p q : Option A) → option_or o (option_or p q) ≡ option_or (option_or o p) q
or_assoc None p q = refl
or_assoc (Some x) p q = refl

first_push_more : {I : Type 0} (events : List (Event I)) (e : Event I) (n : ℕ) → first_push n (events ++ e ∷ []) ≡ option_or (first_push n events) (push_under n e)
first_push_more [] e n = or_none (push_under n e)
first_push_more (x ∷ later) e n =
    ap (λ o. option_or (push_under n x) o) (first_push_more later e n) ∙ or_assoc (push_under n x) (first_push n later) (push_under n e)

last_same : {I : Type 0} (events : List (Event I)) (e : Event I) → number_given e ≡ None → last_given (events ++ e ∷ []) ≡ last_given events
last_same [] e none = none
last_same (x ∷ later) e none = ap (λ o. option_or o (number_given x)) (last_same later e none)

last_now : {I : Type 0} (events : List (Event I)) (n : ℕ) → last_given (events ++ given n ∷ []) ≡ Some n
last_now [] n = refl
last_now (x ∷ later) n = rw (last_now later n) refl

bool_cases : (b : Bool) → (b ≡ true) ⊎ (b ≡ false)
bool_cases true = inl refl
bool_cases false = inr refl

same_or_not : (m n : ℕ) → (m ≡ n) ⊎ (m ≡ n → ⊥)
same_or_not m n = elim (cases_order m n) [
  | inl same ↦ inl same
  | inr o ↦ inr (λ e. elim o [ inl lt ↦ omega arith | inr gt ↦ omega arith ])
]

neither : (a b : Bool) → (a || b) ≡ false → (a ≡ false) × (b ≡ false)
neither true b e = absurd cc
neither false b e = (refl, e)

-- above the last number
not_passed : (l n : ℕ) → l < n → is_passed (Some l) n ≡ false
not_passed l n lt = lt-leb n l lt

passed : (l n : ℕ) → n ≤ l → is_passed (Some l) n ≡ true
passed l n le = le-leb n l le

pub new_stands : {I : Type 0} (depack : CodecDepacketizer) (hold_back : ℕ) → StandsFor (nothing_waits {I = I} depack hold_back) []
new_stands depack hold_back = record {
  last = refl;
  packets = λ n. refl;
  in_order = tt;
  paddings = λ n. refl;
  paddings_in_order = tt;
}

-- what an event does not push stays
other_push : {I : Type 0} (events : List (Event I)) (e : Event I) (n : ℕ) → push_under n e ≡ None → first_push n (events ++ e ∷ []) ≡ first_push n events
other_push events e n none = first_push_more events e n ∙ ap (λ o. option_or (first_push n events) o) none ∙ or_none (first_push n events)

or_stays : {A : Type 0} (o p : Option A) → is_some o ≡ true → option_or o p ≡ o
or_stays None p e = absurd cc
or_stays (Some x) p e = refl

-- what was pushed before stays
pushed_before : {I : Type 0} (events : List (Event I)) (e : Event I) (n : ℕ) → is_some (first_push n events) ≡ true → first_push n (events ++ e ∷ []) ≡ first_push n events
pushed_before events e n some = first_push_more events e n ∙ or_stays (first_push n events) (push_under n e) some

padding_some : {I : Type 0} (o : Option (Option (Arrival I))) → is_padding o ≡ true → is_some o ≡ true
padding_some None e = absurd cc
padding_some (Some o) e = refl

nothing_pushed : {I : Type 0} (o : Option (Option (Arrival I))) → is_some (packet_of o) ≡ false → is_padding o ≡ false → o ≡ None
nothing_pushed None e f = refl
nothing_pushed (Some None) e f = absurd cc
nothing_pushed (Some (Some a)) e f = absurd cc

packet_not_padding : {I : Type 0} (o : Option (Option (Arrival I))) → is_padding o ≡ true → packet_of o ≡ None
packet_not_padding None e = absurd cc
packet_not_padding (Some None) e = refl
packet_not_padding (Some (Some a)) e = absurd cc

padding_stays : {I : Type 0} (events : List (Event I)) (e : Event I) (n : ℕ) → is_padding (first_push n events) ≡ true → is_padding (first_push n (events ++ e ∷ [])) ≡ true
padding_stays events e n is = ap is_padding (pushed_before events e n (padding_some (first_push n events) is)) ∙ is

-- events that leave what was pushed above the last number leave what the buffer stands for
last_stays : {I : Type 0} (events : List (Event I)) (e : Event I) (last : Option ℕ) → number_given e ≡ None
    → ((n : ℕ) → is_passed last n ≡ false → is_padding (first_push n (events ++ e ∷ [])) ≡ is_padding (first_push n events))
    → IsLast events last → IsLast (events ++ e ∷ []) last
last_stays events e None none same is = last_same events e none ∙ is
last_stays events e (Some l) none same is = record {
  packet = is.packet;
  was_given = last_same events e none ∙ is.was_given;
  follows = is.follows;
  paddings = λ n lt le. padding_stays events e n (is.paddings n lt le);
  ends = same (l + 1) (not_passed l (l + 1) (omega arith)) ∙ is.ends;
}

above_kept : {I : Type 0} (events : List (Event I)) (l m : ℕ) → l < m → is_kept events (Some l) m ≡ is_padding (first_push m events)
above_kept events l m lt = let p : is_passed (Some l) m ≡ false = not_passed l m lt in rw p refl

waiting_stays : {I : Type 0} (events : List (Event I)) (e : Event I) (last : Option ℕ) (n : ℕ)
    → (is_passed last n ≡ false → packet_of (first_push n (events ++ e ∷ [])) ≡ packet_of (first_push n events))
    → waiting_under (events ++ e ∷ []) last n ≡ waiting_under events last n
waiting_stays events e last n same = elim (bool_cases (is_passed last n)) [
  | inl yes' ↦ rw yes' refl
  | inr no' ↦ rw no' (same no')
]

kept_stays : {I : Type 0} (events : List (Event I)) (e : Event I) (last : Option ℕ) (n : ℕ)
    → (is_passed last n ≡ false → is_padding (first_push n (events ++ e ∷ [])) ≡ is_padding (first_push n events))
    → is_kept (events ++ e ∷ []) last n ≡ is_kept events last n
kept_stays events e last n same = elim (bool_cases (is_passed last n)) [
  | inl yes' ↦ rw yes' refl
  | inr no' ↦ rw no' (same no')
]

same_push_stands : {I : Type 0} (b : Waiting I) (events : List (Event I)) (e : Event I) → number_given e ≡ None
    → ((n : ℕ) → is_passed b.last n ≡ false → first_push n (events ++ e ∷ []) ≡ first_push n events)
    → StandsFor b events → StandsFor b (events ++ e ∷ [])
same_push_stands b events e none same s = record {
  last = last_stays events e b.last none (λ n p. ap is_padding (same n p)) s.last;
  packets = λ n. s.packets n ∙ sym (waiting_stays events e b.last n (λ p. ap packet_of (same n p)));
  in_order = s.in_order;
  paddings = λ n. s.paddings n ∙ sym (kept_stays events e b.last n (λ p. ap is_padding (same n p)));
  paddings_in_order = s.paddings_in_order;
}

one_pushed : {I : Type 0} (o : Option (Option (Arrival I))) → (is_some (packet_of o) || is_padding o) ≡ true → is_some o ≡ true
one_pushed None e = absurd cc
one_pushed (Some o) e = refl

-- a number that is known and was not passed was pushed
known_pushed : {I : Type 0} (b : Waiting I) (events : List (Event I)) (n : ℕ) → StandsFor b events → is_known b n ≡ true → is_passed b.last n ≡ false → is_some (first_push n events) ≡ true
known_pushed b events n s known p =
    let packet : under n b.packets ≡ packet_of (first_push n events) = s.packets n ∙ rw p refl in
    let padding : among n b.paddings ≡ is_padding (first_push n events) = s.paddings n ∙ rw p refl in
    let either : (is_some (packet_of (first_push n events)) || is_padding (first_push n events)) ≡ true = rw (p, packet, padding) at known in
    one_pushed (first_push n events) either

-- a number that is not known was not passed, and was not pushed
pub record IsNew {I : Type 0} (b : Waiting I) (events : List (Event I)) (n : ℕ) : Type 0 where
  pub above : is_passed b.last n ≡ false
  pub none : first_push n events ≡ None

unknown_new : {I : Type 0} (b : Waiting I) (events : List (Event I)) (n : ℕ) → StandsFor b events → is_known b n ≡ false → IsNew b events n
unknown_new b events n s known =
    let one = neither _ _ known in
    let two = neither _ _ one.1 in
    let packet : under n b.packets ≡ packet_of (first_push n events) = s.packets n ∙ rw one.0 refl in
    let padding : among n b.paddings ≡ is_padding (first_push n events) = s.paddings n ∙ rw one.0 refl in
    let no_packet : is_some (packet_of (first_push n events)) ≡ false = ap is_some (sym packet) ∙ two.0 in
    record {
      above = one.0;
      none = nothing_pushed (first_push n events) no_packet (sym padding ∙ two.1);
    }

known_stands : {I : Type 0} (b : Waiting I) (events : List (Event I)) (e : Event I) (n : ℕ) → number_given e ≡ None
    → ((m : ℕ) → (m ≡ n → ⊥) → push_under m e ≡ None) → is_known b n ≡ true → StandsFor b events → StandsFor b (events ++ e ∷ [])
known_stands b events e n none others known s =
    same_push_stands b events e none (λ m p. elim (same_or_not m n) [
      | inl same ↦
          let q : is_passed b.last n ≡ false = rw same at p in
          rw same (pushed_before events e n (known_pushed b events n s known q))
      | inr other ↦ other_push events e m (others m other)
    ]) s

-- A packet.

packet_others : {I : Type 0} (a : Arrival I) (m : ℕ) → (m ≡ a.meta.seq_no → ⊥) → push_under m (pushed a) ≡ None
packet_others a m ne = let t : eqb a.meta.seq_no m ≡ false = ne_eqb a.meta.seq_no m (λ e. ne (sym e)) in rw t refl

packet_here : {I : Type 0} (a : Arrival I) → push_under a.meta.seq_no (pushed a) ≡ Some (Some a)
packet_here a = let t : eqb a.meta.seq_no a.meta.seq_no ≡ true = eq-eqb a.meta.seq_no a.meta.seq_no refl in rw t refl

new_push : {I : Type 0} (events : List (Event I)) (e : Event I) (n : ℕ) → first_push n events ≡ None → first_push n (events ++ e ∷ []) ≡ push_under n e
new_push events e n none = first_push_more events e n ∙ ap (λ o. option_or o (push_under n e)) none

-- a packet that was pushed makes no padding number
packet_padding : {I : Type 0} (b : Waiting I) (events : List (Event I)) (a : Arrival I) → IsNew b events a.meta.seq_no
    → (m : ℕ) → is_padding (first_push m (events ++ pushed a ∷ [])) ≡ is_padding (first_push m events)
packet_padding b events a new m = elim (same_or_not m a.meta.seq_no) [
  | inl same ↦
      rw same
      (ap is_padding (new_push events (pushed a) a.meta.seq_no new.none ∙ packet_here a) ∙ sym (ap is_padding new.none))
  | inr other ↦ ap is_padding (other_push events (pushed a) m (packet_others a m other))
]

packet_waits : {I : Type 0} (b : Waiting I) (events : List (Event I)) (a : Arrival I) → IsNew b events a.meta.seq_no → StandsFor b events
    → (m : ℕ) → under m (insert_entry nat_cmp b.packets a.meta.seq_no a) ≡ waiting_under (events ++ pushed a ∷ []) b.last m
packet_waits b events a new s m = elim (same_or_not m a.meta.seq_no) [
  | inl same ↦
      rw same
      (under_inserted b.packets a.meta.seq_no a
      ∙ sym (rw new.above (ap packet_of (new_push events (pushed a) a.meta.seq_no new.none ∙ packet_here a))))
  | inr other ↦
      under_others b.packets a.meta.seq_no m a other
      ∙ s.packets m
      ∙ sym (waiting_stays events (pushed a) b.last m (λ p. ap packet_of (other_push events (pushed a) m (packet_others a m other))))
]

pub packet_stands : {I : Type 0} (b : Waiting I) (events : List (Event I)) (a : Arrival I) → StandsFor b events → StandsFor (with_packet b a) (events ++ pushed a ∷ [])
packet_stands b events a s = elim (bool_cases (is_known b a.meta.seq_no)) [
  | inl known ↦ rw known (known_stands b events (pushed a) a.meta.seq_no refl (packet_others a) known s)
  | inr unknown ↦
      let new = unknown_new b events a.meta.seq_no s unknown in
      rw unknown
      (record {
        last = last_stays events (pushed a) b.last refl (λ n p. packet_padding b events a new n) s.last;
        packets = packet_waits b events a new s;
        in_order = rise_inserted b.packets 0 a.meta.seq_no a s.in_order (omega arith);
        paddings = λ n. s.paddings n ∙ sym (kept_stays events (pushed a) b.last n (λ p. packet_padding b events a new n));
        paddings_in_order = s.paddings_in_order;
      })
]

-- A padding number.

padding_others : {I : Type 0} (n m : ℕ) → (m ≡ n → ⊥) → push_under {I = I} m (padded n) ≡ None
padding_others n m ne = let t : eqb n m ≡ false = ne_eqb n m (λ e. ne (sym e)) in rw t refl

padding_here : {I : Type 0} (n : ℕ) → push_under {I = I} n (padded n) ≡ Some None
padding_here n = let t : eqb n n ≡ true = eq-eqb n n refl in rw t refl

-- a padding number makes no packet
padding_packet : {I : Type 0} (b : Waiting I) (events : List (Event I)) (n : ℕ) → IsNew b events n
    → (m : ℕ) → packet_of (first_push m (events ++ padded n ∷ [])) ≡ packet_of (first_push m events)
padding_packet b events n new m = elim (same_or_not m n) [
  | inl same ↦
      rw same
      (ap packet_of (new_push events (padded n) n new.none ∙ padding_here n) ∙ sym (ap packet_of new.none))
  | inr other ↦ ap packet_of (other_push events (padded n) m (padding_others n m other))
]

padding_kept : {I : Type 0} (b : Waiting I) (events : List (Event I)) (n : ℕ) → IsNew b events n → StandsFor b events
    → (m : ℕ) → among m (insert_key nat_cmp b.paddings n) ≡ is_kept (events ++ padded n ∷ []) b.last m
padding_kept b events n new s m = elim (same_or_not m n) [
  | inl same ↦
      rw same
      (among_inserted b.paddings n ∙ sym (rw new.above (ap is_padding (new_push events (padded n) n new.none ∙ padding_here n))))
  | inr other ↦
      among_others b.paddings n m other
      ∙ s.paddings m
      ∙ sym (kept_stays events (padded n) b.last m (λ p. ap is_padding (other_push events (padded n) m (padding_others n m other))))
]

-- from a last number to the one to which padding numbers settle
settled_last : {I : Type 0} (events : List (Event I)) (l l' packet : ℕ) (ns ns' : List ℕ) → last_given events ≡ Some packet → packet ≤ l
    → ((n : ℕ) → packet < n → n ≤ l → is_padding (first_push n events) ≡ true)
    → ((m : ℕ) → l < m → among m ns ≡ is_padding (first_push m events)) → Settles l ns l' ns' → IsPassedUpTo events l'
settled_last events l l' packet ns ns' was le before same t = record {
  packet = packet;
  was_given = was;
  follows = omega (arith, t.follows);
  paddings = λ m lt h. elim (cases_lt l m) [
    | inl above ↦ sym (same m above) ∙ t.between m above h
    | inr below ↦ before m lt below
  ];
  ends = sym (same (l' + 1) (omega (arith, t.follows))) ∙ t.ends;
}

settled_kept : {I : Type 0} (events : List (Event I)) (l l' : ℕ) (ns ns' : List ℕ)
    → ((m : ℕ) → l < m → among m ns ≡ is_padding (first_push m events)) → Settles l ns l' ns' → (m : ℕ) → among m ns' ≡ is_kept events (Some l') m
settled_kept events l l' ns ns' same t m = elim (cases_lt l' m) [
  | inl above ↦
      let p : is_passed (Some l') m ≡ false = not_passed l' m above in
      t.above m above ∙ same m (omega (arith, t.follows)) ∙ sym (rw p refl)
  | inr below ↦
      let p : is_passed (Some l') m ≡ true = passed l' m below in
      t.passed m below ∙ sym (rw p refl)
]

-- what waits above a last number waits above the one to which padding numbers settle
settled_waits : {I : Type 0} (events : List (Event I)) (l l' : ℕ) (ns ns' : List ℕ)
    → ((m : ℕ) → l < m → among m ns ≡ is_padding (first_push m events)) → Settles l ns l' ns' → (m : ℕ)
    → waiting_under events (Some l) m ≡ waiting_under events (Some l') m
settled_waits events l l' ns ns' same t m = elim (cases_lt l' m) [
  | inl above ↦
      let p : is_passed (Some l') m ≡ false = not_passed l' m above in
      let q : is_passed (Some l) m ≡ false = not_passed l m (omega (arith, t.follows)) in
      rw (p, q) refl
  | inr below ↦
      let p : is_passed (Some l') m ≡ true = passed l' m below in
      elim (cases_lt l m) [
        | inl above ↦
            let q : is_passed (Some l) m ≡ false = not_passed l m above in
            rw (p, q) (packet_not_padding (first_push m events) (sym (same m above) ∙ t.between m above below))
        | inr under' ↦
            let q : is_passed (Some l) m ≡ true = passed l m under' in
            rw (p, q) refl
      ]
]

settles_stands : {I : Type 0} (b : Waiting I) (events : List (Event I)) (n : ℕ) (ns : List ℕ) (last : Option ℕ) → IsLast events last
    → ((m : ℕ) → under m b.packets ≡ waiting_under (events ++ padded n ∷ []) last m)
    → ((m : ℕ) → among m ns ≡ is_kept (events ++ padded n ∷ []) last m) → Rise 0 b.packets → NumbersRise 0 ns
    → StandsFor (let s = settled last ns in record b { last = s.0; paddings = s.1 }) (events ++ padded n ∷ [])
settles_stands b events n ns None is waits kept in_order rise = record {
  last = last_same events (padded n) refl ∙ is;
  packets = waits;
  in_order = in_order;
  paddings = kept;
  paddings_in_order = rise;
}
settles_stands b events n ns (Some l) is waits kept in_order rise =
    let t = settles ns l 0 rise in
    let same = λ (m : ℕ) (lt : l < m). kept m ∙ above_kept (events ++ padded n ∷ []) l m lt in
    rw t.is
    (record {
      last =
          settled_last (events ++ padded n ∷ []) l t.last_then is.packet ns t.ns_then (last_same events (padded n) refl ∙ is.was_given) is.follows
          (λ m lt le. padding_stays events (padded n) m (is.paddings m lt le)) same t.settles;
      packets = λ m. waits m ∙ settled_waits (events ++ padded n ∷ []) l t.last_then ns t.ns_then same t.settles m;
      in_order = in_order;
      paddings = settled_kept (events ++ padded n ∷ []) l t.last_then ns t.ns_then same t.settles;
      paddings_in_order = t.settles.rise;
    })

pub padding_stands : {I : Type 0} (b : Waiting I) (events : List (Event I)) (n : ℕ) → StandsFor b events → StandsFor (with_padding b n) (events ++ padded n ∷ [])
padding_stands b events n s = elim (bool_cases (is_known b n)) [
  | inl known ↦ rw known (known_stands b events (padded n) n refl (padding_others n) known s)
  | inr unknown ↦
      let new = unknown_new b events n s unknown in
      rw unknown
      (settles_stands b events n (insert_key nat_cmp b.paddings n) b.last s.last
      (λ m. s.packets m ∙ sym (waiting_stays events (padded n) b.last m (λ p. padding_packet b events n new m)))
      (padding_kept b events n new s) s.in_order (numbers_rise_inserted b.paddings 0 n s.paddings_in_order (omega arith)))
]

-- A packet that is given.

waits_above : {I : Type 0} (events : List (Event I)) (last : Option ℕ) (n : ℕ) (a : Arrival I) → waiting_under events last n ≡ Some a → is_passed last n ≡ false
waits_above events last n a e = elim (bool_cases (is_passed last n)) [
  | inl yes' ↦ absurd (let none = rw yes' at e in cc)
  | inr no' ↦ no'
]

later_above : (last : Option ℕ) (n m : ℕ) → is_passed last n ≡ false → n < m → is_passed last m ≡ false
later_above None n m e lt = refl
later_above (Some l) n m e lt = elim (cases_lt l m) [
  | inl above ↦ not_passed l m above
  | inr below ↦ absurd (let t : leb n l ≡ true = le-leb n l (omega arith) in cc)
]

-- above the number that is given what waits and what is kept is as it was
given_waits : {I : Type 0} (events : List (Event I)) (last : Option ℕ) (n m : ℕ) → is_passed last n ≡ false → n < m
    → waiting_under events last m ≡ packet_of (first_push m (events ++ given n ∷ []))
given_waits events last n m above lt =
    let p : is_passed last m ≡ false = later_above last n m above lt in
    rw p (ap packet_of (sym (other_push events (given n) m refl)))

given_kept : {I : Type 0} (events : List (Event I)) (last : Option ℕ) (n m : ℕ) → is_passed last n ≡ false → n < m
    → is_kept events last m ≡ is_padding (first_push m (events ++ given n ∷ []))
given_kept events last n m above lt =
    let p : is_passed last m ≡ false = later_above last n m above lt in
    rw p (ap is_padding (sym (other_push events (given n) m refl)))

rest_waits : {I : Type 0} (events : List (Event I)) (last : Option ℕ) (e : ℕ × Arrival I) (rest : List (ℕ × Arrival I)) → is_passed last e.0 ≡ false
    → ((m : ℕ) → under m (e ∷ rest) ≡ waiting_under events last m) → Rise 0 (e ∷ rest)
    → (m : ℕ) → under m rest ≡ waiting_under (events ++ given e.0 ∷ []) (Some e.0) m
rest_waits events last e rest above waits rise m = elim (cases_lt e.0 m) [
  | inl later ↦
      let p : is_passed (Some e.0) m ≡ false = not_passed e.0 m later in
      sym (under_tail m e rest (λ same. absurd (omega arith)))
      ∙ waits m
      ∙ given_waits events last e.0 m above later
      ∙ sym (rw p refl)
  | inr below ↦
      let p : is_passed (Some e.0) m ≡ true = passed e.0 m below in
      under_below rest (e.0 + 1) m rise.1 (omega arith) ∙ sym (rw p refl)
]

given_stands : {I : Type 0} (b : Waiting I) (events : List (Event I)) (e : ℕ × Arrival I) (rest : List (ℕ × Arrival I)) (last : Option ℕ)
    → ((m : ℕ) → under m (e ∷ rest) ≡ waiting_under events last m) → Rise 0 (e ∷ rest)
    → ((m : ℕ) → among m b.paddings ≡ is_kept events last m) → NumbersRise 0 b.paddings
    → StandsFor (without_first b (e ∷ rest)) (events ++ given e.0 ∷ [])
given_stands b events e rest last waits rise kept numbers =
    let above = waits_above events last e.0 e.1 (sym (waits e.0) ∙ under_head e.0 e rest refl) in
    let t = settles b.paddings e.0 0 numbers in
    let same = λ (m : ℕ) (lt : e.0 < m). kept m ∙ given_kept events last e.0 m above lt in
    rw t.is
    (record {
      last =
          settled_last (events ++ given e.0 ∷ []) e.0 t.last_then e.0 b.paddings t.ns_then (last_now events e.0) (omega arith)
          (λ m lt le. absurd (omega arith)) same t.settles;
      packets = λ m.
          rest_waits events last e rest above waits rise m
          ∙ settled_waits (events ++ given e.0 ∷ []) e.0 t.last_then b.paddings t.ns_then same t.settles m;
      in_order = rise_later rest (e.0 + 1) rise.1;
      paddings = settled_kept (events ++ given e.0 ∷ []) e.0 t.last_then b.paddings t.ns_then same t.settles;
      paddings_in_order = t.settles.rise;
    })

turned : {I : Type 0} (b : Waiting I) (events : List (Event I)) (x : ℕ × Arrival I) (rest : List (ℕ × Arrival I)) (turn' : Option Bool) → StandsFor b events
    → StandsFor (without_first b (x ∷ rest)) (events ++ given x.0 ∷ [])
    → StandsFor (if is_some turn' then without_first b (x ∷ rest) else b) (events ++ option_map_or (λ _. given x.0 ∷ []) turn' [])
turned b events x rest None s after = rw append-nil s
turned b events x rest (Some v) s after = after

pops_stand : {I : Type 0} (b : Waiting I) (events : List (Event I)) (now : ℕ) (timeout : Option ℕ) (ps : List (ℕ × Arrival I)) → StandsFor b events
    → ((m : ℕ) → under m ps ≡ waiting_under events b.last m) → Rise 0 ps
    → StandsFor (if is_some (option_and_then (turn_of b now timeout) (slice_get ps 0)) then without_first b ps else b)
    (events ++ option_map_or (λ e. option_map_or (λ _. given e.0 ∷ []) (turn_of b now timeout e) []) (slice_get ps 0) [])
pops_stand b events now timeout [] s waits rise = rw append-nil s
pops_stand b events now timeout (x ∷ rest) s waits rise =
    turned b events x rest (turn_of b now timeout x) s (given_stands b events x rest b.last waits rise s.paddings s.paddings_in_order)

pub pop_stands : {I : Type 0} (b : Waiting I) (events : List (Event I)) (now : ℕ) (timeout : Option ℕ) → StandsFor b events
    → StandsFor (after_pop b now timeout) (events ++ given_now b now timeout)
pop_stands b events now timeout s = pops_stand b events now timeout b.packets s s.packets s.in_order

-- The rule of giving.

front_first : {I : Type 0} (b : Waiting I) (events : List (Event I)) (x : ℕ × Arrival I) (rest : List (ℕ × Arrival I))
    → ((m : ℕ) → under m (x ∷ rest) ≡ waiting_under events b.last m) → Rise 0 (x ∷ rest) → IsFront events b.last x.0 x.1
front_first b events x rest waits rise = record {
  waits = sym (waits x.0) ∙ under_head x.0 x rest refl;
  lowest = λ n lt. sym (waits n) ∙ under_below (x ∷ rest) x.0 n (omega arith, rise.1) lt;
}

-- there is one front
front_one : {I : Type 0} (b : Waiting I) (events : List (Event I)) (n m : ℕ) (a c : Arrival I) → IsFront events b.last n a → IsFront events b.last m c → (n ≡ m) × (a ≡ c)
front_one b events n m a c f h = elim (cases_order n m) [
  | inl same ↦
      let one : waiting_under events b.last m ≡ Some a = rw same at f.waits in
      let two = h.waits in
      (same, cc)
  | inr o ↦ elim o [
    | inl lt ↦ absurd (let none = h.lowest n lt in let some = f.waits in cc)
    | inr gt ↦ absurd (let none = f.lowest m gt in let some = h.waits in cc)
  ]
]

not_due : {I : Type 0} (b : Waiting I) (events : List (Event I)) (now : ℕ) (timeout : Option ℕ) (x : ℕ × Arrival I) → IsFront events b.last x.0 x.1
    → is_due b x.0 x.1 now timeout ≡ false → NothingIsDue b events now timeout
not_due b events now timeout x first none number arrival front =
    let one = front_one b events x.0 number x.1 arrival first front in
    rw (← one.0, ← one.1) none

given_rule : {I : Type 0} (b : Waiting I) (events : List (Event I)) (now : ℕ) (timeout : Option ℕ) (ps : List (ℕ × Arrival I))
    → ((m : ℕ) → under m ps ≡ waiting_under events b.last m) → Rise 0 ps
    → GivesByRule b events now timeout (option_and_then (λ e. option_map (frame_of b.depack e.1) (turn_of b now timeout e)) (slice_get ps 0))
given_rule b events now timeout [] waits rise = λ number arrival front. absurd (let none = waits number in let some = front.waits in cc)
given_rule b events now timeout (x ∷ rest) waits rise =
    let first = front_first b events x rest waits rise in
    elim (bool_cases (is_next b.last x.0)) [
      | inl next ↦ rw next (record { number = x.0; arrival = x.1; is_front = first; due = rw next refl; frame = rw next refl })
      | inr gap ↦ elim (bool_cases (is_late b x.1.meta.received now timeout)) [
        | inl late ↦ rw (gap, late) (record { number = x.0; arrival = x.1; is_front = first; due = rw (gap, late) refl; frame = rw gap refl })
        | inr early ↦ rw (gap, early) (not_due b events now timeout x first (rw (gap, early) refl))
      ]
    ]

pub pop_rule : {I : Type 0} (b : Waiting I) (events : List (Event I)) (now : ℕ) (timeout : Option ℕ) → StandsFor b events
    → GivesByRule b events now timeout (popped b now timeout)
pop_rule b events now timeout s = given_rule b events now timeout b.packets s.packets s.in_order

-- The same of what a call left and answered.

pub packet_after : {I : Type 0} (b after : Waiting I) (events : List (Event I)) (a : Arrival I) → after ≡ with_packet b a → StandsFor b events → StandsFor after (events ++ pushed a ∷ [])
packet_after b after events a e s = rw e (packet_stands b events a s)

pub padding_after : {I : Type 0} (b after : Waiting I) (events : List (Event I)) (n : ℕ) → after ≡ with_padding b n → StandsFor b events → StandsFor after (events ++ padded n ∷ [])
padding_after b after events n e s = rw e (padding_stands b events n s)

pub given_after : {I : Type 0} (b after : Waiting I) (events : List (Event I)) (now : ℕ) (timeout : Option ℕ) → after ≡ after_pop b now timeout → StandsFor b events
    → StandsFor after (events ++ given_now b now timeout)
given_after b after events now timeout e s = rw e (pop_stands b events now timeout s)

pub given_by_rule : {I : Type 0} (b : Waiting I) (events : List (Event I)) (now : ℕ) (timeout : Option ℕ) (answer : Option (Result (Depacketized I) PacketError)) → answer ≡ popped b now timeout → StandsFor b events
    → GivesByRule b events now timeout answer
given_by_rule b events now timeout answer e s = rw e (pop_rule b events now timeout s)
