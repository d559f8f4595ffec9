-- A run in which a packet is lost, asked for, repaired and yielded, and what it meets.
use Rattle.std.proofs.Common.{◌≡◌, ◌%◌, inl, inr, ℕ, Bool, true, false, ◌==◌, ◌&&◌, zero, suc, List, [], ◌∷◌, ◌++◌, length, ◌≤◌, take, drop, Option, Some, refl, sym, ap, ◌∙◌, subst, arith, None}
use Rattle.std.specs.List.{flat_map}
use Rattle.resend_core.specs.ResendStore.{Past, HeldAs}
use Rattle.rtp_base.specs.NackEntry.{named_below}
use Rattle.repair_core.specs.Entries.{names}
use Rattle.rtcp_wire.specs.declared.rtcp_fb.RtcpFb.TheVariants.{Nack}
use Rattle.rtp_base.specs.declared.kind.Kind.TheVariants.{Rtp, Rtcp}
use Rattle.media_model.specs.declared.entry.Side.{Side}
use Rattle.media_model.specs.declared.entry.Side.TheVariants.{A, B}
use Rattle.media_model.specs.declared.entry.Write.{Write}
use Rattle.media_model.specs.Sides.{peer_of}
use Rattle.run_model.specs.Events.{as_packet, Plain, Event, wrote, ticked, got, sealed, sealed_items, opened, opened_items, yielded, Types, Outgoing, Incoming}
use Rattle.run_model.specs.Receiving.{Lists, concerns, widened, is_fresh_number, Opens}
use Rattle.run_model.specs.RxPlay.{RxRecord, new_rx}
use Rattle.run_model.specs.Listing.{IsIn}
use Rattle.run_model.specs.Sending.{Carries, Kept, wanted, sending_of, repair_of}
use Rattle.run_model.specs.Seals.{Sealing, Reporting, IsSeal, IsReport}
use Rattle.run_model.specs.Transcripts.{types_of}
use Rattle.rtcp_items.specs.declared.extended.DlrrItem.{DlrrItem as Delay}
use Rattle.run_model.specs.TxPlay.{stored, sends, resends, Queues, none as none_queued, held}
use Rattle.run_model.specs.Asking.{none as nothing_asked, asks, owes_nothing}
use Rattle.run_model.specs.Tables.{has, AreApart, rests, reports, more, here, none as none_heard, one}
use Rattle.run_model.specs.Runs.{EachFrom, IsGenuineAt, WidensAt, Happening, without_padding, on_side, IsGenuine, RepairsWiden, SealsApart}
use Rattle.run_model.specs.Whole.{Config, Session, session_of, new_session, incoming_of, probes, Turns, writes, ticks, opens, hears, Played, begun, of_a, of_b, IsSound, HeadsApart}
use Rattle.std.proofs.lemmas.Bool.{false≢true}
use Rattle.media_laws.proofs.Lists.{any-from_in}
use Rattle.setup_rules.specs.SetupRules.{setup_fault}
use Rattle.media_laws.proofs.Soundness.{types_pair, sound_types}
use Rattle.media_laws.specs.RepairedRun.{setup, stream, read_plain, request, with_seals, bare_sealing, bare_reporting, example, write_numbered, IsStep, receiver, sender, AsksForTwo, RepairsTwo, TakesAWrite, IsRepairedRun, RepairsMeetThePremises}

pub bare : {A : Type 0} → false ≡ true → A
bare e = absurd (false≢true e)

-- what seals in a run of the setup, and the datagrams of the run: seals, and short
pub record Wiring : Type 0 where
  pub seals : Side → Sealing
  pub reports : Side → Reporting
  pub trip : ℕ → Delay → Option ℕ
  pub owns : Side → ℕ → Bool
  pub first : ℕ → List ℕ
  pub repair : List ℕ
  pub report : List ℕ
  pub seal_1 : IsSeal (seals A) 42 1 (sending_of (write_numbered 1)) (first 1)
  pub seal_2 : IsSeal (seals A) 42 2 (sending_of (write_numbered 2)) (first 2)
  pub seal_3 : IsSeal (seals A) 42 3 (sending_of (write_numbered 3)) (first 3)
  pub seal_repair : IsSeal (seals A) 43 5 (repair_of 97 (write_numbered 2)) repair
  pub short_1 : length (first 1) ≤ 2000
  pub short_3 : length (first 3) ≤ 2000
  pub short_repair : length repair ≤ 2000
  pub is_report : IsReport (reports B) report 0 (Nack 42 (request ∷ []) ∷ [])

abbrev pub config : Wiring → Config
config w = with_seals w.seals w.reports w.trip w.owns

abbrev types : Types
types = types_of setup

-- what B opens
pub opens_as : (w : Wiring) (l : Lists) (bytes : List ℕ) (ssrc n : ℕ) (p : Plain)
    → length bytes ≤ 2000
    → p.padded ≡ false
    → concerns (incoming_of stream) ssrc ≡ true
    → types.claims p.pt ≡ true
    → n ≡ widened types (incoming_of stream) l ssrc p (n % 65536)
    → is_fresh_number types (incoming_of stream) l ssrc p n ≡ true
    → IsSeal (w.seals A) ssrc n p bytes
    → Opens types (incoming_of stream) (w.seals A) l bytes ssrc n p
opens_as w l bytes ssrc n p short plain mine claimed number fresh is_seal = record {
  short = short;
  mine = mine;
  claimed = claimed;
  number = number;
  fresh = fresh;
  sealed = is_seal;
  unpads = λ padded. bare (sym plain ∙ padded);
}

-- its entry names 2 alone
pub names_two : flat_map names (request ∷ []) ≡ 2 ∷ []
unfolding named_below
names_two = refl

request_names : names request ≡ 2 ∷ []
unfolding named_below
request_names = refl

wants_two : wanted (Some 3) (request ∷ []) ≡ 2 ∷ []
unfolding named_below
wants_two = refl

pub queues_two : (past : Past Write) → HeldAs past 2 (Some (write_numbered 2))
    → Queues past (wanted (Some 3) (request ∷ [])) (2 ∷ [])
queues_two past h =
    subst (λ ns. Queues past ns (2 ∷ [])) (sym wants_two) (held 2 (write_numbered 2) h none_queued)

abbrev nth : {X : Type 0} → ℕ → List X → Option X
nth n [] = None
nth zero (x ∷ xs) = Some x
nth (suc n) (x ∷ xs) = nth n xs

-- what stands at a place is in the list
pub stands : {X : Type 0} (n : ℕ) (x : X) (xs : List X) → nth n xs ≡ Some x → IsIn x xs
stands n x [] e = absurd cc
stands zero x (y ∷ ys) e = inl cc
stands (suc n) x (y ∷ ys) e = inr (stands n x ys e)

-- a repair is opened once, and it carries the write that it restores
pub carries_two : (q : ℕ) → Some 2 ≡ Some q → 2 ≡ q
carries_two q e = cc

-- number 2 of SSRC 42 is opened
abbrev is_two : Happening → Bool
is_two (B, opened ssrc n p) = (ssrc == 42) && (n == 2)
is_two (side, e) = false

-- the second of the incoming streams
abbrev second : List (Incoming × RxRecord) → Incoming × RxRecord
second (x ∷ y ∷ ys) = y
second _ = (probes, new_rx)

module _ (w : Wiring) where
  pub record Going : Type 0 where
    pub a : Session
    pub b : Session
    pub entries : List Happening
    pub played : Played (config w) a b entries

  abbrev pub begin : Going
  begin = record {
    a = new_session (config w) A;
    b = new_session (config w) B;
    entries = [];
    played = begun;
  }

  -- a step from there
  pub record Going_on (side : Side) (g : Going) : Type 0 where
    pub after : Session
    pub new : List Event
    pub turns : Turns (config w) side (session_of side g.a g.b) after new

  abbrev step : (side : Side) (g : Going) {c : Session} {new : List Event}
      → Turns (config w) side (session_of side g.a g.b) c new → Going_on side g
  step side g {c} {new} t = record { after = c; new = new; turns = t }

  abbrev pub then_a : (g : Going) → Going_on A g → Going
  then_a g s = record {
    a = s.after;
    b = g.b;
    entries = g.entries ++ on_side A s.new;
    played = of_a g.played s.turns;
  }

  abbrev pub then_b : (g : Going) → Going_on B g → Going
  then_b g s = record {
    a = g.a;
    b = s.after;
    entries = g.entries ++ on_side B s.new;
    played = of_b g.played s.turns;
  }

  -- 1 is written
  abbrev pub s1 : Going_on A begin
  s1 =
      step A begin
      (writes 1 (write_numbered 1) (omega arith) ((λ is i. i), tt))

  abbrev pub g1 : Going
  g1 = then_a begin s1

  abbrev pub s2 : Going_on A g1
  s2 =
      step A g1
      (writes 1 (write_numbered 2) (omega arith) ((λ is i. elim i [ inl e ↦ absurd (omega (arith, e)) | inr k ↦ k ]), tt))

  abbrev pub g2 : Going
  g2 = then_a g1 s2

  abbrev pub s3 : Going_on A g2
  s3 =
      step A g2
      (writes 1 (write_numbered 3) (omega arith) (
        (λ is i.
            elim i [
              | inl e ↦ absurd (omega (arith, e))
              | inr (inl e) ↦ absurd (omega (arith, e))
              | inr (inr k) ↦ k
            ]),
        tt,
      ))

  abbrev pub g3 : Going
  g3 = then_a g2 s3

  -- the tick sends 1, 2 and 3
  abbrev pub s4 : Going_on A g3
  s4 =
      step A g3
      (ticks 1 _ _ (omega arith)
      (record {
        serves = more (here stream (sends (write_numbered 1) _ _ (w.first 1) refl refl (stored refl true (λ m. refl)) w.seal_1))
            (more (here stream (sends (write_numbered 2) _ _ (w.first 2) refl refl (stored refl true (λ m. refl)) w.seal_2))
            (more (here stream (sends (write_numbered 3) _ _ (w.first 3) refl refl (stored refl true (λ m. refl)) w.seal_3)) rests));
        idle = (refl, (refl, tt));
      })
      (owes_nothing _ refl nothing_asked) refl)

  abbrev pub g4 : Going
  g4 = then_a g3 s4

  -- 1 and 3 come
  abbrev pub s5 : Going_on B g4
  s5 =
      step B g4
      (opens 2 (w.first 1) 42 1 (sending_of (write_numbered 1)) _ (omega arith) (inr (inl refl))
      (opens_as w _ _ 42 1 (sending_of (write_numbered 1)) w.short_1 refl refl refl refl refl w.seal_1))

  abbrev pub g5 : Going
  g5 = then_b g4 s5

  abbrev pub s6 : Going_on B g5
  s6 =
      step B g5
      (opens 2 (w.first 3) 42 3 (sending_of (write_numbered 3)) _ (omega arith) (inr (inl refl))
      (opens_as w _ _ 42 3 (sending_of (write_numbered 3)) w.short_3 refl refl refl refl refl w.seal_3))

  abbrev pub g6 : Going
  g6 = then_b g5 s6

  -- 2 is asked for
  abbrev pub s7 : Going_on B g6
  s7 =
      step B g6
      (ticks 33000000 _ _ (omega arith) (record { serves = reports 0 (Nack 42 (request ∷ []) ∷ []) rests; idle = tt })
      (owes_nothing _ refl (asks _ (request ∷ []) names_two nothing_asked)) (refl, refl))

  abbrev pub g7 : Going
  g7 = then_b g6 s7

  abbrev pub s8 : Going_on A g7
  s8 =
      step A g7
      (hears 33000000 w.report 0 (Nack 42 (request ∷ []) ∷ []) (omega arith) w.is_report
      (one stream _ (2 ∷ []) (queues_two _ (1, refl, λ r. omega arith)) none_heard))

  abbrev pub g8 : Going
  g8 = then_a g7 s8

  -- and repaired
  abbrev pub s9 : Going_on A g8
  s9 =
      step A g8
      (ticks 33000000 _ _ (omega arith)
      (record {
        serves = more (here stream (resends 2 [] (write_numbered 2) 43 97 w.repair refl (1, refl, λ r. omega arith) refl refl w.seal_repair)) rests;
        idle = (refl, (refl, tt));
      })
      (owes_nothing _ refl nothing_asked) refl)

  abbrev pub g9 : Going
  g9 = then_a g8 s9

  abbrev pub s10 : Going_on B g9
  s10 =
      step B g9
      (opens 33000000 w.repair 43 5 (repair_of 97 (write_numbered 2)) _ (omega arith) (inr (inl refl))
      (opens_as w _ _ 43 5 (repair_of 97 (write_numbered 2)) w.short_repair refl refl refl refl refl
      w.seal_repair))

  abbrev pub g10 : Going
  g10 = then_b g9 s10

  abbrev sends_first : ℕ → Happening
  sends_first n = (A, sealed 42 n (sending_of (write_numbered n)) (w.first n))

  abbrev hears_request : Happening
  hears_request = (A, opened_items 0 (Nack 42 (request ∷ []) ∷ []))

  abbrev sends_again : Happening
  sends_again = (A, sealed 43 5 (repair_of 97 (write_numbered 2)) w.repair)

  abbrev opens_repair : Happening
  opens_repair = (B, opened 43 5 (repair_of 97 (write_numbered 2)))

  abbrev yields_two : Happening
  yields_two = (B, yielded (as_packet (write_numbered 2)))

  -- what happened
  abbrev pub run : List Happening
  run =
      (A, wrote 1 (write_numbered 1))
      ∷ (A, wrote 1 (write_numbered 2))
      ∷ (A, wrote 1 (write_numbered 3))
      ∷ (A, ticked 1)
      ∷ sends_first 1
      ∷ sends_first 2
      ∷ sends_first 3
      ∷ (B, got 2 Rtp (w.first 1))
      ∷ (B, opened 42 1 (sending_of (write_numbered 1)))
      ∷ (B, yielded (as_packet (write_numbered 1)))
      ∷ (B, got 2 Rtp (w.first 3))
      ∷ (B, opened 42 3 (sending_of (write_numbered 3)))
      ∷ (B, yielded (as_packet (write_numbered 3)))
      ∷ (B, ticked 33000000)
      ∷ (B, sealed_items 0 (Nack 42 (request ∷ []) ∷ []))
      ∷ (A, got 33000000 Rtcp w.report)
      ∷ hears_request
      ∷ (A, ticked 33000000)
      ∷ sends_again
      ∷ (B, got 33000000 Rtp w.repair)
      ∷ opens_repair
      ∷ yields_two
      ∷ []

  played : Played (config w) g10.a g10.b run
  played = g10.played

  -- what is opened was sealed
  abbrev GenuineFrom : ℕ → Type 0
  GenuineFrom n = EachFrom IsGenuineAt (take n run) (drop n run)

  genuine_20 : GenuineFrom 20
  genuine_20 = ((repair_of 97 (write_numbered 2), stands 18 sends_again (take 20 run) refl), (tt, tt))

  genuine_11 : GenuineFrom 11
  genuine_11 =
      let sealed = stands 6 (sends_first 3) (take 11 run) refl in
      ((sending_of (write_numbered 3), sealed), (tt, (tt, (tt, (tt, (tt, (tt, (tt, (tt, genuine_20)))))))))

  genuine_8 : GenuineFrom 8
  genuine_8 =
      let sealed = stands 4 (sends_first 1) (take 8 run) refl in
      ((sending_of (write_numbered 1), sealed), (tt, (tt, genuine_11)))

  genuine : IsGenuine run
  genuine = (tt, (tt, (tt, (tt, (tt, (tt, (tt, (tt, genuine_8))))))))

  carried : Carries types (without_padding (repair_of 97 (write_numbered 2))) (write_numbered 2)
  carried = record { type = refl; marker = refl; time = refl; csrc = refl; payload = refl }

  abbrev WidenFrom : ℕ → Type 0
  WidenFrom n = EachFrom (WidensAt types B (incoming_of stream)) (take n run) (drop n run)

  widen_20 : WidenFrom 20
  widen_20 = (
    λ s c r q e. ((1, write_numbered 2), inr (inl refl), carries_two q e, carried),
    (tt, tt),
  )

  widen_11 : WidenFrom 11
  widen_11 = (λ s c r q e. bare r, (tt, (tt, (tt, (tt, (tt, (tt, (tt, (tt, widen_20)))))))))

  widen_8 : WidenFrom 8
  widen_8 = (λ s c r q e. bare r, (tt, (tt, widen_11)))

  stream_widens : RepairsWiden types B (incoming_of stream) run
  stream_widens = (tt, (tt, (tt, (tt, (tt, (tt, (tt, (tt, widen_8))))))))

  pub widen : (side : Side) (M : Outgoing) → IsIn M ((config w).outgoing (peer_of side))
      → RepairsWiden types side (incoming_of M) run
  widen A M i = absurd i
  widen B M i =
      elim i [
        | inl e ↦ subst (λ L. RepairsWiden types B (incoming_of L) run) (sym e) stream_widens
        | inr k ↦ absurd k
      ]

  lost : (p : Plain) → IsIn (B, opened 42 2 p) run → ⊥
  lost p i = false≢true (any-from_in is_two (B, opened 42 2 p) run i refl)

  -- the run goes on from a step
  goes_on : (side : Side) (g : Going) (s : Going_on side g) (rest : List Happening)
      → run ≡ g.entries ++ (on_side side s.new ++ rest) → IsStep (config w) run side g.entries s.new
  goes_on side g s rest e = record {
    a = g.a;
    b = g.b;
    after = s.after;
    rest = rest;
    played = g.played;
    turns = s.turns;
    whole = e;
  }

  asks_two : AsksForTwo (config w) run
  asks_two = record {
    before = g6.entries;
    time = 33000000;
    new = sealed_items 0 (Nack 42 (request ∷ []) ∷ []) ∷ [];
    step = goes_on B g6 s7 (drop 15 run) refl;
    round = refl;
    line = second (receiver (config w) g6.entries).table;
    there = inr (inl refl);
    ssrc = refl;
    due = refl;
    asked = names_two;
  }

  kept : Kept types stream (sender g8.entries).sent 2
  kept = record {
    moment = 1;
    write = write_numbered 2;
    there = inr (inl refl);
    number = refl;
    rise = (omega arith, (omega arith, (omega arith, tt)));
    near = omega arith;
    young = omega arith;
    aging = omega arith;
  }

  repairs_two : RepairsTwo (config w) run
  repairs_two = record {
    before = g8.entries;
    time = 33000000;
    new = sealed 43 5 (repair_of 97 (write_numbered 2)) w.repair ∷ [];
    step = goes_on A g8 s9 (drop 19 run) refl;
    asked = wants_two;
    kept = kept;
    uncapped = λ h. elim h [ inl e ↦ false≢true e | inr k ↦ k.1 ];
    bytes = w.repair;
    repaired = inl refl;
  }

  takes_three : TakesAWrite (config w) run
  takes_three = record {
    before = g5.entries;
    time = 2;
    bytes = w.first 3;
    new = opened 42 3 (sending_of (write_numbered 3)) ∷ yielded (as_packet (write_numbered 3)) ∷ [];
    step = goes_on B g5 s6 (drop 13 run) refl;
    write = (1, write_numbered 3);
    sent = inr (inr (inl refl));
    plain = record { claimed = refl; primary = refl; short = omega arith };
    sealed = w.seal_3;
    widens = refl;
    fresh = refl;
    yielded = inr (inl refl);
  }

  pub meets : IsSound (config w) → ((side : Side) → HeadsApart (w.seals side))
      → IsRepairedRun (config w) run
  meets sound heads = record {
    a = g10.a;
    b = g10.b;
    sound = sound;
    heads = heads;
    streams = refl;
    played = played;
    genuine = genuine;
    widen = widen;
    datagram = w.first 2;
    sent = stands 5 (sends_first 2) run refl;
    lost = lost;
    asked = stands 16 hears_request run refl;
    names_two = request_names;
    repair = w.repair;
    repaired = stands 18 sends_again run refl;
    opened = stands 20 opens_repair run refl;
    yielded = stands 21 yields_two run refl;
    asks = asks_two;
    repairs = repairs_two;
    takes = takes_three;
  }

-- the datagrams of bare seals
abbrev datagram : ℕ → List ℕ
datagram n = 42 ∷ n ∷ 96 ∷ n ∷ []

abbrev repair : List ℕ
repair = 43 ∷ 5 ∷ 97 ∷ 0 ∷ 2 ∷ 2 ∷ []

abbrev report : List ℕ
report = 0 ∷ 0 ∷ 0 ∷ 0 ∷ 0 ∷ 0 ∷ 0 ∷ 0 ∷ []

-- a seal here is its plain
sealed_as : (ssrc n : ℕ) (p : Plain) (bytes : List ℕ) → read_plain bytes ≡ Some (ssrc, n % 65536, p)
    → IsSeal bare_sealing ssrc n p bytes
sealed_as ssrc n p bytes e = record { plain = bytes; reads = e; sealed = refl }

abbrev bare_wiring : Wiring
bare_wiring = record {
  seals = λ side. bare_sealing;
  reports = λ side. bare_reporting;
  trip = λ now d. None;
  owns = λ side ssrc. false;
  first = datagram;
  repair = repair;
  report = report;
  seal_1 = sealed_as 42 1 (sending_of (write_numbered 1)) (datagram 1) refl;
  seal_2 = sealed_as 42 2 (sending_of (write_numbered 2)) (datagram 2) refl;
  seal_3 = sealed_as 42 3 (sending_of (write_numbered 3)) (datagram 3) refl;
  seal_repair = sealed_as 43 5 (repair_of 97 (write_numbered 2)) repair refl;
  short_1 = omega arith;
  short_3 = omega arith;
  short_repair = omega arith;
  is_report = record {
    packet = report;
    long = omega arith;
    stated = refl;
    held = refl;
    sealed = refl;
  };
}

-- a datagram is its plain
read_of : (ssrc n : ℕ) (p : Plain) (bytes : List ℕ)
    → IsSeal bare_sealing ssrc n p bytes → read_plain bytes ≡ Some (ssrc, n % 65536, p)
read_of ssrc n p bytes h = ap read_plain (sym h.sealed) ∙ h.reads

abbrev Reading : Type 0
Reading = ℕ × ℕ × Plain

abbrev reading : ℕ → ℕ → Plain → Reading
reading ssrc n p = (ssrc, n % 65536, p)

one_in : (x y : Reading) → Some x ≡ Some y → x ≡ y
one_in x y e = cc

-- so two readings of it are one
one_reading : (r n s m : ℕ) (p q : Plain) (bytes : List ℕ)
    → IsSeal bare_sealing r n p bytes
    → IsSeal bare_sealing s m q bytes → reading r n p ≡ reading s m q
one_reading r n s m p q bytes h k =
    one_in _ _ (sym (read_of r n p bytes h) ∙ read_of s m q bytes k)

heads_apart : (side : Side) → HeadsApart bare_sealing
heads_apart side = record {
  ssrc = λ r n s m p q bytes h k. ap (λ (x : Reading). x.0) (one_reading r n s m p q bytes h k);
  low = λ r n s m p q bytes h k. ap (λ (x : Reading). x.1) (one_reading r n s m p q bytes h k);
  type = λ r n s m p q bytes h k. ap (λ (x : Reading). x.2.pt) (one_reading r n s m p q bytes h k);
}

seals_apart : (side : Side) → SealsApart bare_sealing
seals_apart side ssrc n p q bytes h k =
    ap (λ (x : Reading). x.2) (one_reading ssrc n ssrc n p q bytes h k)

apart : (side : Side) → AreApart (example.outgoing side)
apart A = (refl, (tt, tt))
apart B = tt

nonzero : (side : Side) (M : Outgoing) → IsIn M (example.outgoing side) → has M 0 ≡ false
nonzero A M i = elim i [ inl e ↦ subst (λ L. has L 0 ≡ false) (sym e) refl | inr k ↦ absurd k ]
nonzero B M i = absurd i

fine : setup_fault setup ≡ None
fine = refl

sound : IsSound example
sound = record {
  apart = apart;
  nonzero = nonzero;
  seals = seals_apart;
  types = types_pair setup (sound_types setup fine);
}

pub repairs_happen : RepairsMeetThePremises
repairs_happen = (run bare_wiring, meets bare_wiring sound heads_apart)
