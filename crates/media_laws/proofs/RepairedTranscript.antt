-- A run of two sessions in which a packet is lost, asked for, repaired and yielded.
use Rattle.std.proofs.Common.{◌≡◌, ◌+◌, ◌≤◌, ◌<◌, ◌^◌, ◌%◌, ◌==◌, ◌&&◌, ◌∙◌, ℕ, Bool, false, true, List, [], ◌∷◌, ◌++◌, length, take, drop, replicate, Some, None, refl, sym, ap, subst, arith, append_assoc, append-nil}
use Rattle.std.specs.List.{list_any}
use Rattle.rtp_base.specs.declared.kind.Kind.TheVariants.{Rtp, Rtcp}
use Rattle.rtp_wire.specs.declared.header.RtpHeader.{RtpHeader}
use Rattle.rtp_wire.specs.Header.{header_of, header_bytes, wire_form}
use Rattle.rtp_wire.specs.Extensions.{no_values, extension_bytes, written_data, written_elements, written_values}
use Rattle.rtcp_wire.specs.declared.rtcp_fb.RtcpFb.TheVariants.{Nack}
use Rattle.rtcp_wire.specs.Feedback.{nack_of}
use Rattle.rtcp_wire.specs.Rows.{nack_entry_at}
use Rattle.rtcp_wire.specs.Items.{transport_feedback_of, reading_of, item_at, items_of}
use Rattle.media_model.specs.declared.entry.Side.{Side}
use Rattle.media_model.specs.declared.entry.Side.TheVariants.{A, B}
use Rattle.media_model.specs.declared.entry.Sealed.{Sealed as SealedEntry}
use Rattle.media_model.specs.declared.entry.Opened.{Opened as OpenedEntry}
use Rattle.media_model.specs.declared.entry.Entry.{Entry}
use Rattle.media_model.specs.declared.entry.Entry.TheVariants.{Wrote, Ticked, Got, Sealed, Opened, Yielded}
use Rattle.media_model.specs.declared.step.Step.{Step}
use Rattle.media_model.specs.declared.step.Act.TheVariants.{Write, Tick, Deliver}
use Rattle.media_model.specs.Steps.{step_at}
use Rattle.run_model.specs.Events.{Event}
use Rattle.run_model.specs.Listing.{IsIn}
use Rattle.run_model.specs.Seals.{IsSeal, IsReport}
use Rattle.run_model.specs.Tables.{has}
use Rattle.run_model.specs.Runs.{on_side, RepairsWiden}
use Rattle.run_model.specs.Transcripts.{feedback_in, outgoing_of, happenings, types_of}
use Rattle.run_model.specs.Whole.{incoming_of, IsSound, HeadsApart}
use Rattle.setup_rules.specs.SetupRules.{setup_fault}
use Rattle.media_laws.specs.Config.{config_of, rtp_sealing, reporting, owns, trip_at}
use Rattle.media_laws.specs.Opening.{Sealing, got_as, IsOpening, rtp_opening, rtcp_opening}
use Rattle.media_laws.specs.Plain.{extensions_of, read_header, as_packet}
use Rattle.media_model.specs.Genuine.{IsPeersSeal, IsGenuine}
use Rattle.media_laws.specs.Listing.{EachFrom}
use Rattle.media_laws.specs.Play.{AreEntriesOf, Played, Plays, begins, by_a, by_b, delivered, wrote as are_wrote, ticked as are_ticked, got as are_got}
use Rattle.media_laws.specs.Right.{IsRight, right_rtp, right_rtcp}
use Rattle.media_laws.specs.Rules.{step_fault}
use Rattle.media_laws.specs.RepairedRun.{setup, request, unmarked, write_numbered, IsRepairedRun}
use Rattle.media_laws.specs.RepairedTranscript.{IsOpened, RepairsHappenIn}
use Rattle.media_laws.proofs.RepairedRun.{Wiring, Going, Going_on, begin, then_a, then_b, s1, s2, s3, s4, s5, s6, s7, s8, s9, s10, g1, g2, g3, g4, g5, g6, g7, g8, g9, g10, run, widen, meets, stands}
use Rattle.media_laws.proofs.Soundness.{sound_config, sound_heads}
use Rattle.run_model.specs.Widening.{RunWidens}
use Rattle.media_laws.proofs.Lists.{any-from_in}
use Rattle.std.proofs.lemmas.Bool.{false≢true}
use Rattle.srtp_core.specs.Cipher.{CipherMeaning}
use Rattle.srtp_core.specs.Keys.{session_keys}
use Rattle.srtp_core.specs.Laws.{RtcpStates}
use Rattle.media_model.specs.Setup.{material_of}
use Rattle.media_model.specs.Sides.{peer_of}
use Rattle.media_model.specs.Entries.{last_got}
use Rattle.media_model.specs.declared.entry.Got.{Got as GotEntry}
use Rattle.media_laws.specs.Keys.{is_left, sealing_of}
use Rattle.media_laws.proofs.WireLaws.{WireLaws}

fine : setup_fault setup ≡ None
fine = refl

abbrev header_as : (pt n ssrc : ℕ) → RtpHeader
header_as pt n ssrc = record {
  has_padding = false;
  marker = false;
  payload_type = pt;
  sequence_number = n;
  timestamp = 0;
  ssrc = ssrc;
  csrc_count = 0;
  csrc = replicate 15 0;
  ext_vals = no_values;
  header_len = 12;
}

-- the plain datagram of a type, a number and an SSRC
abbrev plain_as : (pt n ssrc : ℕ) → List ℕ → List ℕ
plain_as pt n ssrc payload =
    128 ∷ pt ∷ 0 ∷ n ∷ 0 ∷ 0 ∷ 0 ∷ 0 ∷ 0 ∷ 0 ∷ 0 ∷ ssrc ∷ payload

-- it is its header as it is written, with the payload behind it
record IsPlain (plain : List ℕ) (h : RtpHeader) : Type 0 where
  pub reads : read_header setup plain ≡ Some h
  pub wire : h ≡ wire_form (extensions_of setup) h
  pub written : plain ≡ header_bytes (extensions_of setup) h ++ drop 12 plain

abbrev PlainAs : (pt n ssrc : ℕ) → List ℕ → Type 0
PlainAs pt n ssrc payload = IsPlain (plain_as pt n ssrc payload) (header_as pt n ssrc)

plain_1 : PlainAs 96 1 42 (1 ∷ [])
unfolding header_of header_bytes wire_form extension_bytes written_data written_elements written_values
plain_1 = record { reads = refl; wire = refl; written = refl }

plain_2 : PlainAs 96 2 42 (2 ∷ [])
unfolding header_of header_bytes wire_form extension_bytes written_data written_elements written_values
plain_2 = record { reads = refl; wire = refl; written = refl }

plain_3 : PlainAs 96 3 42 (3 ∷ [])
unfolding header_of header_bytes wire_form extension_bytes written_data written_elements written_values
plain_3 = record { reads = refl; wire = refl; written = refl }

-- the repair of 2
plain_repair : PlainAs 97 5 43 (0 ∷ 2 ∷ 2 ∷ [])
unfolding header_of header_bytes wire_form extension_bytes written_data written_elements written_values
plain_repair = record { reads = refl; wire = refl; written = refl }

-- the packet of the NACK
abbrev packet : List ℕ
packet = 129 ∷ 205 ∷ 0 ∷ 3 ∷ 0 ∷ 0 ∷ 0 ∷ 2 ∷ 0 ∷ 0 ∷ 0 ∷ 42 ∷ 0 ∷ 2 ∷ 0 ∷ 0 ∷ []

packet_asks : feedback_in packet ≡ Nack 42 (request ∷ []) ∷ []
unfolding items_of item_at reading_of transport_feedback_of nack_of nack_entry_at
packet_asks = refl

-- a seal of RTP is at most 16 bytes longer, and one of the NACK states that it is encrypted, and
-- its index
pub record SealsFit (seal : Sealing) : Type 0 where
  pub short : (ssrc index : ℕ) (plain : List ℕ) (h : RtpHeader) → read_header setup plain ≡ Some h
      → length (seal.rtp A ssrc index plain) ≤ length plain + 16
  pub encrypts : seal.encrypts (seal.rtcp B true 0 packet) ≡ true
  pub states : seal.states (seal.rtcp B true 0 packet) ≡ 0

module _ (seal : Sealing) (fit : SealsFit seal) where
  abbrev sealed_as : (pt n ssrc : ℕ) → List ℕ → SealedEntry
  sealed_as pt n ssrc payload = record {
    side = A;
    kind = Rtp;
    ssrc = ssrc;
    index = n;
    plain = plain_as pt n ssrc payload;
    bytes = seal.rtp A ssrc n (plain_as pt n ssrc payload);
  }

  -- what the other side opens of it
  abbrev opened_of : SealedEntry → Side → OpenedEntry
  opened_of s side = record {
    side = side;
    kind = s.kind;
    ssrc = s.ssrc;
    index = s.index;
    plain = s.plain;
  }

  seal_as : (pt n ssrc : ℕ) (payload : List ℕ) → PlainAs pt n ssrc payload → n ≡ n % 65536
      → IsSeal (rtp_sealing seal setup A) ssrc n (unmarked pt payload)
      (sealed_as pt n ssrc payload).bytes
  seal_as pt n ssrc payload p low = record {
    plain = plain_as pt n ssrc payload;
    reads = rw p.reads (ap (λ (m : ℕ). Some (ssrc, m, unmarked pt payload)) low);
    sealed = refl;
  }

  right_as : (pt n ssrc : ℕ) (payload : List ℕ) → PlainAs pt n ssrc payload
      → n ≡ n % 65536 → n < 2 ^ 48 → list_any (λ L. has L ssrc) (outgoing_of A setup) ≡ true
      → IsRight seal setup (sealed_as pt n ssrc payload)
  right_as pt n ssrc payload p low small there = right_rtp (record {
    rtp = refl;
    header = header_as pt n ssrc;
    reads = p.reads;
    source = refl;
    low = low;
    small = small;
    not_filler = refl;
    few = omega arith;
    sealed_header = header_as pt n ssrc;
    wire = p.wire;
    written = p.written;
    stream = there;
    sealed = refl;
  })

  opening_as : (time pt n ssrc : ℕ) (payload : List ℕ) → PlainAs pt n ssrc payload
      → n ≡ n % 65536
      → IsOpening seal setup (got_as B time Rtp (sealed_as pt n ssrc payload).bytes)
      (opened_of (sealed_as pt n ssrc payload) B)
  opening_as time pt n ssrc payload p low =
      rtp_opening (record {
        rtp = refl;
        header = header_as pt n ssrc;
        reads = p.reads;
        source = refl;
        low = low;
        sealed = refl;
      })

  abbrev first_sealed : ℕ → SealedEntry
  first_sealed n = sealed_as 96 n 42 (n ∷ [])

  abbrev repair_sealed : SealedEntry
  repair_sealed = sealed_as 97 5 43 (0 ∷ 2 ∷ 2 ∷ [])

  abbrev nack_sealed : SealedEntry
  nack_sealed = record {
    side = B;
    kind = Rtcp;
    ssrc = 2;
    index = 0;
    plain = packet;
    bytes = seal.rtcp B true 0 packet;
  }

  is_short : (pt n ssrc : ℕ) (payload : List ℕ) → PlainAs pt n ssrc payload
      → length (plain_as pt n ssrc payload) ≤ 1000
      → length (sealed_as pt n ssrc payload).bytes ≤ 2000
  is_short pt n ssrc payload p few =
      let plain = plain_as pt n ssrc payload in
      omega (arith, few, fit.short ssrc n plain (header_as pt n ssrc) p.reads)

  unsealed : seal.rtcp B (seal.encrypts nack_sealed.bytes) 0 packet ≡ nack_sealed.bytes
  unsealed = ap (λ b. seal.rtcp B b 0 packet) fit.encrypts

  is_report : IsReport (reporting seal B) nack_sealed.bytes 0 (Nack 42 (request ∷ []) ∷ [])
  is_report = record {
    packet = packet;
    long = omega arith;
    stated = sym fit.states;
    held = sym packet_asks;
    sealed = unsealed;
  }

  -- the plain run of these datagrams
  abbrev wiring : Wiring
  wiring = record {
    seals = rtp_sealing seal setup;
    reports = reporting seal;
    trip = trip_at setup;
    owns = owns setup;
    first = λ n. (first_sealed n).bytes;
    repair = repair_sealed.bytes;
    report = nack_sealed.bytes;
    seal_1 = seal_as 96 1 42 (1 ∷ []) plain_1 refl;
    seal_2 = seal_as 96 2 42 (2 ∷ []) plain_2 refl;
    seal_3 = seal_as 96 3 42 (3 ∷ []) plain_3 refl;
    seal_repair = seal_as 97 5 43 (0 ∷ 2 ∷ 2 ∷ []) plain_repair refl;
    short_1 = is_short 96 1 42 (1 ∷ []) plain_1 (omega arith);
    short_3 = is_short 96 3 42 (3 ∷ []) plain_3 (omega arith);
    short_repair = is_short 97 5 43 (0 ∷ 2 ∷ 2 ∷ []) plain_repair (omega arith);
    is_report = is_report;
  }

  -- steps, and the entries that they brought, where the plain run stands
  record Playing (g : Going wiring) : Type 0 where
    pub steps : List Step
    pub entries : List Entry
    pub plays : Plays seal setup g.a g.b steps entries

  abbrev start : Playing (begin wiring)
  start = record { steps = []; entries = []; plays = begins }

  -- a step that a step of the plain run reads
  record IsStep (side : Side) (past : List Entry) (events : List Event) (step : Step)
      (new : List Entry)
      : Type 0 where
    pub valid : step_fault setup past step ≡ None
    pub are_of : AreEntriesOf seal setup past side step new
    pub read : happenings setup new ≡ on_side side events

  abbrev play_a : (g : Going wiring) (s : Going_on wiring A g) (p : Playing g) (step : Step)
      (new : List Entry)
      → IsStep A p.entries s.new step new → Playing (then_a wiring g s)
  play_a g s p step new h = record {
    steps = p.steps ++ step ∷ [];
    entries = p.entries ++ new;
    plays = by_a p.plays step new (record {
      valid = h.valid;
      are_of = h.are_of;
      events = s.new;
      read = h.read;
      turn = s.turns;
    });
  }

  abbrev play_b : (g : Going wiring) (s : Going_on wiring B g) (p : Playing g) (step : Step)
      (new : List Entry)
      → IsStep B p.entries s.new step new → Playing (then_b wiring g s)
  play_b g s p step new h = record {
    steps = p.steps ++ step ∷ [];
    entries = p.entries ++ new;
    plays = by_b p.plays step new (record {
      valid = h.valid;
      are_of = h.are_of;
      events = s.new;
      read = h.read;
      turn = s.turns;
    });
  }

  abbrev write_step : ℕ → Step
  write_step n = step_at A 1 (Write (write_numbered n))

  abbrev write_entries : ℕ → List Entry
  write_entries n = Wrote A 1 (write_numbered n) ∷ []

  writes_as : (past : List Entry) (n : ℕ)
      → AreEntriesOf seal setup past A (write_step n) (write_entries n)
  writes_as past n = are_wrote A 1 (write_numbered n) (omega arith) (omega arith) tt

  -- 1, 2 and 3 are written
  abbrev p1 : Playing (g1 wiring)
  p1 =
      play_a (begin wiring) (s1 wiring) start (write_step 1) (write_entries 1)
      (record { valid = refl; are_of = writes_as _ 1; read = refl })

  abbrev p2 : Playing (g2 wiring)
  p2 =
      play_a (g1 wiring) (s2 wiring) p1 (write_step 2) (write_entries 2)
      (record { valid = refl; are_of = writes_as _ 2; read = refl })

  abbrev p3 : Playing (g3 wiring)
  p3 =
      play_a (g2 wiring) (s3 wiring) p2 (write_step 3) (write_entries 3)
      (record { valid = refl; are_of = writes_as _ 3; read = refl })

  -- a tick sends them
  abbrev sent_entries : List Entry
  sent_entries = Sealed (first_sealed 1) ∷ Sealed (first_sealed 2) ∷ Sealed (first_sealed 3) ∷ []

  right_1 : IsRight seal setup (first_sealed 1)
  right_1 = right_as 96 1 42 (1 ∷ []) plain_1 refl (omega arith) refl

  right_2 : IsRight seal setup (first_sealed 2)
  right_2 = right_as 96 2 42 (2 ∷ []) plain_2 refl (omega arith) refl

  right_3 : IsRight seal setup (first_sealed 3)
  right_3 = right_as 96 3 42 (3 ∷ []) plain_3 refl (omega arith) refl

  abbrev p4 : Playing (g4 wiring)
  p4 =
      play_a (g3 wiring) (s4 wiring) p3 (step_at A 1 Tick)
      (Ticked A 1 ∷ sent_entries)
      (record {
        valid = refl;
        are_of = are_ticked A 1 sent_entries (right_1, (right_2, (right_3, tt)));
        read = rw (plain_1.reads, plain_2.reads, plain_3.reads) refl;
      })

  -- 1 and 3 come
  abbrev first_got : ℕ → GotEntry
  first_got n = got_as B 2 Rtp (first_sealed n).bytes

  abbrev first_came : ℕ → List Entry
  first_came n =
      Opened (opened_of (first_sealed n) B) ∷ Yielded B (as_packet (write_numbered n)) ∷ []

  abbrev p5 : Playing (g5 wiring)
  p5 =
      play_b (g4 wiring) (s5 wiring) p4 (step_at B 2 (Deliver 1))
      (Got (first_got 1) ∷ first_came 1)
      (record {
        valid = refl;
        are_of = are_got (first_got 1) (first_came 1)
            (delivered B 2 1 (first_sealed 1) (omega arith) refl)
            (opening_as 2 96 1 42 (1 ∷ []) plain_1 refl, (tt, tt));
        read = rw plain_1.reads refl;
      })

  abbrev p6 : Playing (g6 wiring)
  p6 =
      play_b (g5 wiring) (s6 wiring) p5 (step_at B 2 (Deliver 3))
      (Got (first_got 3) ∷ first_came 3)
      (record {
        valid = refl;
        are_of = are_got (first_got 3) (first_came 3)
            (delivered B 2 3 (first_sealed 3) (omega arith) refl)
            (opening_as 2 96 3 42 (3 ∷ []) plain_3 refl, (tt, tt));
        read = rw plain_3.reads refl;
      })

  -- 2 is asked for
  right_nack : IsRight seal setup nack_sealed
  right_nack = right_rtcp (record {
    rtcp = refl;
    header = omega arith;
    source = refl;
    small = omega arith;
    sealed = refl;
  })

  abbrev p7 : Playing (g7 wiring)
  p7 =
      play_b (g6 wiring) (s7 wiring) p6 (step_at B 33000000 Tick)
      (Ticked B 33000000 ∷ Sealed nack_sealed ∷ [])
      (record {
        valid = refl;
        are_of = are_ticked B 33000000 (Sealed nack_sealed ∷ []) (right_nack, tt);
        read = rw packet_asks refl;
      })

  -- that comes
  abbrev nack_got : GotEntry
  nack_got = got_as A 33000000 Rtcp nack_sealed.bytes

  abbrev nack_came : List Entry
  nack_came = Opened (opened_of nack_sealed A) ∷ []

  nack_opening : IsOpening seal setup nack_got (opened_of nack_sealed A)
  nack_opening = rtcp_opening (record {
    rtcp = refl;
    header = omega arith;
    source = refl;
    stated = sym fit.states;
    sealed = unsealed;
  })

  abbrev p8 : Playing (g8 wiring)
  p8 =
      play_a (g7 wiring) (s8 wiring) p7 (step_at A 33000000 (Deliver 1))
      (Got nack_got ∷ nack_came)
      (record {
        valid = refl;
        are_of = are_got nack_got nack_came
            (delivered A 33000000 1 nack_sealed (omega arith) refl) (nack_opening, tt);
        read = rw packet_asks refl;
      })

  -- and it is repaired
  right_repair : IsRight seal setup repair_sealed
  right_repair = right_as 97 5 43 (0 ∷ 2 ∷ 2 ∷ []) plain_repair refl (omega arith) refl

  abbrev p9 : Playing (g9 wiring)
  p9 =
      play_a (g8 wiring) (s9 wiring) p8 (step_at A 33000000 Tick)
      (Ticked A 33000000 ∷ Sealed repair_sealed ∷ [])
      (record {
        valid = refl;
        are_of = are_ticked A 33000000 (Sealed repair_sealed ∷ []) (right_repair, tt);
        read = rw plain_repair.reads refl;
      })

  abbrev repair_got : GotEntry
  repair_got = got_as B 33000000 Rtp repair_sealed.bytes

  abbrev repair_came : List Entry
  repair_came = Opened (opened_of repair_sealed B) ∷ Yielded B (as_packet (write_numbered 2)) ∷ []

  abbrev p10 : Playing (g10 wiring)
  p10 =
      play_b (g9 wiring) (s10 wiring) p9 (step_at B 33000000 (Deliver 4))
      (Got repair_got ∷ repair_came)
      (record {
        valid = refl;
        are_of = are_got repair_got repair_came
            (delivered B 33000000 4 repair_sealed (omega arith) refl)
            (opening_as 33000000 97 5 43 (0 ∷ 2 ∷ 2 ∷ []) plain_repair refl, (tt, tt));
        read = rw plain_repair.reads refl;
      })

  -- the entries of it all
  abbrev all : List Entry
  all =
      Wrote A 1 (write_numbered 1)
      ∷ Wrote A 1 (write_numbered 2)
      ∷ Wrote A 1 (write_numbered 3)
      ∷ Ticked A 1
      ∷ Sealed (first_sealed 1)
      ∷ Sealed (first_sealed 2)
      ∷ Sealed (first_sealed 3)
      ∷ Got (first_got 1)
      ∷ Opened (opened_of (first_sealed 1) B)
      ∷ Yielded B (as_packet (write_numbered 1))
      ∷ Got (first_got 3)
      ∷ Opened (opened_of (first_sealed 3) B)
      ∷ Yielded B (as_packet (write_numbered 3))
      ∷ Ticked B 33000000
      ∷ Sealed nack_sealed
      ∷ Got nack_got
      ∷ Opened (opened_of nack_sealed A)
      ∷ Ticked A 33000000
      ∷ Sealed repair_sealed
      ∷ Got repair_got
      ∷ Opened (opened_of repair_sealed B)
      ∷ Yielded B (as_packet (write_numbered 2))
      ∷ []

  played : Played seal setup p10.steps all
  played = record { a = (g10 wiring).a; b = (g10 wiring).b; plays = p10.plays }

  -- what is opened was sealed
  abbrev GenuineAt : List Entry → Entry → Type 0
  GenuineAt past (Opened o) = IsPeersSeal past o
  GenuineAt past e = Unit {0}

  each_genuine : (past entries : List Entry) → EachFrom GenuineAt past entries
      → (before after : List Entry) (o : OpenedEntry) → entries ≡ before ++ Opened o ∷ after
      → IsPeersSeal (past ++ before) o
  each_genuine past [] h [] after o e = absurd cc
  each_genuine past [] h (b ∷ before) after o e = absurd cc
  each_genuine past (x ∷ entries) h [] after o e =
      let is : x ≡ Opened o = cc in
      subst (λ es. IsPeersSeal es o) (sym (append-nil past)) (subst (GenuineAt past) is h.0)
  each_genuine past (x ∷ entries) h (b ∷ before) after o e =
      let is : x ≡ b = cc in let rest : entries ≡ before ++ Opened o ∷ after = cc in
      let r = each_genuine (past ++ x ∷ []) entries h.1 before after o rest in
      let same = append_assoc past (x ∷ []) before ∙ ap (λ y. past ++ y ∷ before) is in
      subst (λ es. IsPeersSeal es o) same r

  abbrev GenuineFrom : ℕ → Type 0
  GenuineFrom n = EachFrom GenuineAt (take n all) (drop n all)

  peers : (s : SealedEntry) (n k : ℕ) (side : Side)
      → take n all ≡ take k (take n all) ++ Sealed s ∷ drop (k + 1) (take n all)
      → s.side ≡ peer_of side → last_got side (take n all) ≡ Some s.bytes
      → IsPeersSeal (take n all) (opened_of s side)
  peers s n k side there by came = record {
    seal = s;
    front = take k (take n all);
    rest = drop (k + 1) (take n all);
    sealed = there;
    side = by;
    kind = refl;
    ssrc = refl;
    index = refl;
    came = came;
  }

  -- the seal of what is opened behind n entries stands behind k of them
  genuine_20 : GenuineFrom 20
  genuine_20 = (peers repair_sealed 20 18 B refl refl refl, (tt, tt))

  genuine_16 : GenuineFrom 16
  genuine_16 = (peers nack_sealed 16 14 A refl refl refl, (tt, (tt, (tt, genuine_20))))

  genuine_11 : GenuineFrom 11
  genuine_11 = (peers (first_sealed 3) 11 6 B refl refl refl, (tt, (tt, (tt, (tt, genuine_16)))))

  genuine_8 : GenuineFrom 8
  genuine_8 = (peers (first_sealed 1) 8 4 B refl refl refl, (tt, (tt, genuine_11)))

  all_genuine : EachFrom GenuineAt [] all
  all_genuine = (tt, (tt, (tt, (tt, (tt, (tt, (tt, (tt, genuine_8))))))))

  genuine : IsGenuine all
  genuine before after o e = each_genuine [] all all_genuine before after o e

  -- as it is read it is the plain run
  happened : happenings setup all ≡ run wiring
  happened = rw (plain_1.reads, plain_2.reads, plain_3.reads, plain_repair.reads, packet_asks) refl

  widens : RunWidens setup all
  widens side L i =
      subst (RepairsWiden (types_of setup) side (incoming_of L)) (sym happened) (widen wiring side L i)

  -- what is opened under SSRC 42 and number 2
  abbrev is_two : Entry → Bool
  is_two (Opened o) = (o.ssrc == 42) && (o.index == 2)
  is_two e = false

  lost : (o : OpenedEntry) → IsIn (Opened o) all → IsOpened 42 2 o → ⊥
  lost o i h = false≢true (any-from_in is_two (Opened o) all i (rw (h.ssrc, h.index) refl))

  pub happens : IsSound (config_of seal setup)
      → ((side : Side) → HeadsApart (rtp_sealing seal setup side)) → RepairsHappenIn seal
  happens sound heads = record {
    steps = p10.steps;
    entries = all;
    fine = fine;
    played = played;
    genuine = genuine;
    widens = widens;
    sent = record {
      entry = first_sealed 2;
      there = stands 5 (Sealed (first_sealed 2)) all refl;
      side = refl;
      kind = refl;
      ssrc = refl;
      index = refl;
    };
    lost = lost;
    asked = record {
      entry = opened_of nack_sealed A;
      there = stands 16 (Opened (opened_of nack_sealed A)) all refl;
      side = refl;
      kind = refl;
      feedback = packet_asks;
    };
    repaired = record {
      entry = repair_sealed;
      there = stands 18 (Sealed repair_sealed) all refl;
      side = refl;
      kind = refl;
      ssrc = refl;
      index = refl;
    };
    repair = opened_of repair_sealed B;
    opened = stands 20 (Opened (opened_of repair_sealed B)) all refl;
    is_repair = record { side = refl; kind = refl; ssrc = refl; index = refl };
    yielded = stands 21 (Yielded B (as_packet (write_numbered 2))) all refl;
    plain = subst (IsRepairedRun (config_of seal setup)) (sym happened) (meets wiring sound heads);
  }

-- the seals of a cipher fit
seals_fit : (cipher : CipherMeaning) → WireLaws (sealing_of cipher setup) setup → RtcpStates cipher
    → SealsFit (sealing_of cipher setup)
seals_fit cipher wire told =
    let keys = session_keys cipher setup.profile (material_of setup) (is_left B) in
    let both = told setup.profile keys true 0 packet (omega arith) in
    record { short = wire.tag A; encrypts = both.0; states = both.1 }

pub repairs_happen : (cipher : CipherMeaning) → WireLaws (sealing_of cipher setup) setup
    → RtcpStates cipher → RepairsHappenIn (sealing_of cipher setup)
repairs_happen cipher wire told =
    happens (sealing_of cipher setup) (seals_fit cipher wire told) (sound_config wire fine)
    (sound_heads wire)
