-- What holds of a run up to the step that finds a key used up.
use Rattle.std.proofs.Common.{◌≡◌, inl, inr, ℕ, ◌+◌, ◌^◌, List, [], ◌∷◌, ◌++◌, length, None, refl, sym, ap, ◌∙◌, subst}
use Rattle.std.proofs.lemmas.List.{append-nil}
use Rattle.std.proofs.lemmas.List.Concat.{flat_map-append}
use Rattle.std.specs.List.{AllByRecursion}
use Rattle.setup_rules.specs.SetupRules.{setup_fault}
use Rattle.media_model.specs.declared.entry.Call.TheVariants as call
use Rattle.media_model.specs.declared.entry.Entry.{Entry}
use Rattle.media_model.specs.declared.entry.Entry.TheVariants.{Wrote, Ticked, Called, Got, Sealed, Opened, Yielded}
use Rattle.media_model.specs.declared.entry.Side.{Side}
use Rattle.media_model.specs.declared.setup.Setup.{Setup}
use Rattle.media_model.specs.declared.step.Act.{Act}
use Rattle.media_model.specs.declared.step.Act.TheVariants.{Write, Tick, Deliver, Foreign, Feedback, Ask, Rate}
use Rattle.media_model.specs.declared.step.Step.{Step}
use Rattle.media_model.specs.Entries.{srtcp_index_by, srtcp_indices, nonce_by, nonces, packet_by, packets, sealed_numbers}
use Rattle.media_model.specs.Setup.{local_of}
use Rattle.media_model.specs.Steps.{step_at}
use Rattle.run_model.specs.Events.{ticked, Outgoing}
use Rattle.run_model.specs.Listing.{IsIn, NoRepeat}
use Rattle.run_model.specs.Runs.{Happening, events_of, on_side}
use Rattle.run_model.specs.Transcripts.{happenings, outgoing_of}
use Rattle.run_model.specs.TxPlay.{TxRecord}
use Rattle.run_model.specs.Whole.{Session, session_of, indices, Ends, in_tick, IsSound}
use Rattle.run_model.specs.Tables.{IsUsedUpIn}
use Rattle.media_laws.specs.declared.counter.Counter.{Counter}
use Rattle.media_laws.specs.declared.counter.Counter.TheVariants.{Rtcp, Rtx}
use Rattle.media_laws.specs.Config.{config_of}
use Rattle.media_laws.specs.Exhausting.{IsCutTick, LacksNumber, ActExhausts, Exhausts, IsUsedUp}
use Rattle.media_laws.specs.Feedback.{next_index}
use Rattle.media_laws.specs.Headline.{IsRightIfSealed, NoNonceTwice, IsSentWrite, TickAnswersPartly, YieldsExactly, PlaysFrom, PlaysSteps, HoldsOfFront, HoldsToKey}
use Rattle.media_laws.specs.Listing.{EachFrom}
use Rattle.media_laws.specs.Opening.{Sealing}
use Rattle.media_laws.specs.Play.{Plays, Played}
use Rattle.media_laws.specs.Right.{IsRightSeal}
use Rattle.media_laws.proofs.WireLaws.{WireLaws}
use Rattle.media_laws.proofs.Exactly.{first_sendings_are_yielded}
use Rattle.media_laws.proofs.Fronts.{NoYields, yields_front}
use Rattle.media_laws.proofs.Indices.{counts_length, counted_cut}
use Rattle.media_laws.proofs.Lists.{IsIn-append, IsIn-map}
use Rattle.media_laws.proofs.Playing.{EachFrom-append, EachFrom-places, EachStep-more, PlaysFrom-append, plays_none, plays_steps, seals_only, right_seals, happenings-more, as_run, steps_are_answered, seals_are_right}
use Rattle.media_laws.proofs.Readings.{indices_read}
use Rattle.media_laws.proofs.Sendings.{AsEnded, as_ended, no_nonce_twice, in_all, AllRight, all_right, numbers_read, there_in, of_tick, sends_writes}
use Rattle.media_laws.proofs.Soundness.{sound_config}
use Rattle.media_laws.proofs.Streams.{apart_at, repair_numbers, repairs_count}
use Rattle.media_laws.proofs.Tables.{ended, end_in}
use Rattle.media_laws.proofs.Whole.{cut_side, runs_answer_partly}
use Rattle.media_laws.proofs.Yields.{no_packet_twice}

packets_none : (side : Side) (es : List Entry) → NoYields es → packets side es ≡ []
packets_none side [] quiet = refl
packets_none side (Yielded s p ∷ es) quiet = absurd (quiet s p (inl refl))
packets_none side (Wrote s t w ∷ es) quiet = packets_none side es (λ r p i. quiet r p (inr i))
packets_none side (Ticked s t ∷ es) quiet = packets_none side es (λ r p i. quiet r p (inr i))
packets_none side (Called s t c ∷ es) quiet = packets_none side es (λ r p i. quiet r p (inr i))
packets_none side (Got g ∷ es) quiet = packets_none side es (λ r p i. quiet r p (inr i))
packets_none side (Sealed x ∷ es) quiet = packets_none side es (λ r p i. quiet r p (inr i))
packets_none side (Opened o ∷ es) quiet = packets_none side es (λ r p i. quiet r p (inr i))

-- what is told behind a run, and yields nothing
holds_behind : {seal : Sealing} {setup : Setup} {a b : Session} {steps : List Step} {past : List Entry} → IsSound (config_of seal setup) → Plays seal setup a b steps past → (told : List Entry)
    → NoYields told → EachFrom (λ past entry. IsRightIfSealed seal setup entry) past told → NoNonceTwice (past ++ told) → EachFrom (IsSentWrite setup) past told
    → HoldsOfFront seal setup (past ++ told)
holds_behind {seal} {setup} {a} {b} {steps} {past} sound h told quiet rights apart sent = record {
  seals = EachFrom-append (λ past entry. IsRightIfSealed seal setup entry) [] past told (seals_are_right h) rights;
  nonces = apart;
  sendings = EachFrom-append (IsSentWrite setup) [] past told (sends_writes sound h) sent;
  yields = yields_front sound (past ++ told) (record { a = a; b = b; steps = steps; whole = past; more = told; plays = h; is = refl; quiet = quiet });
  once = λ s. subst NoRepeat (sym (flat_map-append (packet_by s) past told ∙ ap (λ ps. packets s past ++ ps) (packets_none s told quiet) ∙ append-nil (packets s past))) (no_packet_twice sound h s);
}

-- a call that brings nothing, since no index is left
module _ {seal : Sealing} {setup : Setup} (wire : WireLaws seal setup) (fine : setup_fault setup ≡ None) {a b : Session} {steps : List Step} {past : List Entry}
    (h : Plays seal setup a b steps past) (by : Side) (time : ℕ) where
  abbrev call_told : List Entry
  call_told = Called by time call.Application ∷ []

  holds_at_call : next_index setup by past ≡ 2 ^ 31 → HoldsToKey seal setup by Rtcp (past ++ call_told)
  holds_at_call used =
      let sound : IsSound (config_of seal setup) = sound_config wire fine in
      record {
        steps = record { past = past; told = call_told; all = refl; steps = steps_are_answered sound h; last = refl };
        front = holds_behind sound h call_told (λ s p i. elim i [ inl e ↦ cc e | inr j ↦ j ]) (tt, tt)
            (λ s. subst NoRepeat (sym (flat_map-append (nonce_by s) past call_told ∙ append-nil (nonces s past))) (no_nonce_twice sound past (as_ended h) s)) (tt, tt);
        exactly = EachStep-more (YieldsExactly setup) past (Called by time call.Application) [] (first_sendings_are_yielded wire fine sound h) refl tt tt;
        used_up = ap (λ (is : List ℕ). (local_of by setup).srtcp_index + length is) (flat_map-append (srtcp_index_by by) past call_told ∙ append-nil (srtcp_indices by past)) ∙ used;
      }

-- what is sealed yields nothing
seals_yield_none : (seal : Sealing) (setup : Setup) (es : List Entry) → AllByRecursion (IsRightSeal seal setup) es → NoYields es
seals_yield_none seal setup [] h s p i = i
seals_yield_none seal setup (e ∷ es) h s p (inl is) = subst (IsRightSeal seal setup) (sym is) h.0
seals_yield_none seal setup (e ∷ es) h s p (inr i) = seals_yield_none seal setup es h.1 s p i

-- a tick that is cut off
module _ {seal : Sealing} {setup : Setup} (wire : WireLaws seal setup) (fine : setup_fault setup ≡ None) (by : Side) {a b : Session} {steps : List Step} {past : List Entry}
    (h : Plays seal setup a b steps past) (time : ℕ) (new : List Entry) (cut : IsCutTick seal setup by (session_of by a b) time new) where
  sound : IsSound (config_of seal setup)
  sound = sound_config wire fine

  abbrev tick_told : List Entry
  tick_told = Ticked by time ∷ new

  abbrev cut_events : List Happening
  cut_events = happenings setup past ++ on_side by (ticked time ∷ cut.new)

  read_cut : happenings setup (past ++ tick_told) ≡ cut_events
  read_cut = happenings-more setup past tick_told ∙ ap (λ (hs : List Happening). happenings setup past ++ (by, ticked time) ∷ hs) cut.read

  ends_cut : AsEnded seal setup (past ++ tick_told)
  ends_cut = subst (Ends (config_of seal setup)) (sym read_cut) (in_tick (as_run h) by time cut.streams cut.next cut.new cut.cut)

  partly_answered : TickAnswersPartly seal setup by past new
  partly_answered = record {
    only = cut.right;
    new = cut.new;
    read = cut.read;
    answers = runs_answer_partly (config_of seal setup) a b (happenings setup past) by time cut.streams cut.next cut.new sound (as_run h) cut.cut;
  }

  rights : AllRight seal setup (past ++ tick_told)
  rights s i = elim (IsIn-append (Sealed s) past tick_told i) [
    | inl j ↦ all_right h s j
    | inr j ↦ elim j [ inl e ↦ absurd (cc e) | inr k ↦ in_all seal setup new s cut.right k ]
  ]

  place : (front : List Entry) (x : Entry) (rest : List Entry) → tick_told ≡ front ++ x ∷ rest → IsSentWrite setup (past ++ front) x
  place front (Sealed s) rest e = λ rtp.
      elim (there_in sound past front s rest rtp tick_told e) [
        | inl is ↦ absurd (cc is)
        | inr i ↦ of_tick sound past front s rest rtp time new e partly_answered (as_ended h) ends_cut rights i
      ]
  place front (Wrote s u w) rest e = tt
  place front (Ticked s u) rest e = tt
  place front (Called s u c) rest e = tt
  place front (Got g) rest e = tt
  place front (Opened o) rest e = tt
  place front (Yielded s p) rest e = tt

  -- the number that is lacking
  used_rtcp : cut.next ≡ 2 ^ 31 → next_index setup by (past ++ tick_told) ≡ 2 ^ 31
  used_rtcp used =
      let count = counts_length (local_of by setup).srtcp_index (indices (events_of by cut_events)) cut.next (counted_cut (as_run h) by time cut.streams cut.next cut.new cut.cut) in
      ap (λ (is : List ℕ). (local_of by setup).srtcp_index + length is) (indices_read setup by (past ++ tick_told) ∙ ap (λ (hs : List Happening). indices (events_of by hs)) read_cut)
      ∙ sym count ∙ used

  used_rtx : (ssrc : ℕ) → IsUsedUpIn ssrc cut.streams → IsUsedUp setup by (Rtx ssrc) (past ++ tick_told)
  used_rtx ssrc u =
      let s : Outgoing × TxRecord = u.0 in
      let e = ended (sound.apart by) (cut_side (as_run h) by time cut.streams cut.next cut.new cut.cut) in
      let i : IsIn s.0 (outgoing_of by setup) = subst (IsIn s.0) e.same (IsIn-map (λ (x : Outgoing × TxRecord). x.0) s cut.streams u.1) in
      let count = counts_length s.0.start (repair_numbers s.0 (events_of by cut_events)) s.1.next_rtx (repairs_count (apart_at sound by s.0 i) (end_in cut.streams s e.all u.1)) in
      let read : sealed_numbers by ssrc (past ++ tick_told) ≡ repair_numbers s.0 (events_of by cut_events) =
      numbers_read seal setup by s.0 ssrc u.2 (past ++ tick_told) rights ∙ ap (λ (hs : List Happening). repair_numbers s.0 (events_of by hs)) read_cut in
      (s.0, i, u.2, ap (λ (ns : List ℕ). s.0.start + length ns) read ∙ sym count ∙ u.3)

  used_up : (counter : Counter) → LacksNumber counter cut.streams cut.next → IsUsedUp setup by counter (past ++ tick_told)
  used_up Rtcp lacks = used_rtcp lacks
  used_up (Rtx ssrc) lacks = used_rtx ssrc lacks

  holds_at_tick : (counter : Counter) → LacksNumber counter cut.streams cut.next → HoldsToKey seal setup by counter (past ++ tick_told)
  holds_at_tick counter lacks = record {
    steps = record { past = past; told = tick_told; all = refl; steps = steps_are_answered sound h; last = partly_answered };
    front = holds_behind sound h tick_told (λ s p i. elim i [ inl e ↦ cc e | inr j ↦ seals_yield_none seal setup new cut.right s p j ])
        (tt, right_seals seal setup (past ++ Ticked by time ∷ []) new cut.right) (no_nonce_twice sound (past ++ tick_told) ends_cut) (EachFrom-places (IsSentWrite setup) past tick_told place);
    exactly = EachStep-more (YieldsExactly setup) past (Ticked by time) new (first_sendings_are_yielded wire fine sound h) refl (seals_only seal setup new cut.right) tt;
    used_up = used_up counter lacks;
  }

-- both

pub holds_to_key : {seal : Sealing} {setup : Setup} → WireLaws seal setup → setup_fault setup ≡ None → (steps : List Step) (past : List Entry) (step : Step) (side : Side) (counter : Counter)
    (told : List Entry) → Played seal setup steps past → Exhausts seal setup past step side counter told → HoldsToKey seal setup side counter (past ++ told)
holds_to_key {seal} {setup} wire fine steps past step side counter told played e = of_act step.act e.5
  where
    of_act : (act : Act) → ActExhausts seal setup past side (session_of side e.1 e.2) step.time act counter told → HoldsToKey seal setup side counter (past ++ told)
    of_act (Feedback sender media payload) x =
        subst (λ es. HoldsToKey seal setup side counter (past ++ es)) (sym x.2)
        (subst (λ c. HoldsToKey seal setup side c (past ++ Called side step.time call.Application ∷ [])) (sym x.0) (holds_at_call wire fine e.4 side step.time x.1))
    of_act Tick x =
        subst (λ es. HoldsToKey seal setup side counter (past ++ es)) (sym x.1) (holds_at_tick wire fine side e.4 step.time x.0 x.2 counter x.3)
    of_act (Write write) x = absurd x
    of_act (Deliver k) x = absurd x
    of_act (Foreign kind bytes) x = absurd x
    of_act (Ask ssrc kind) x = absurd x
    of_act (Rate ssrc rate) x = absurd x

-- the step that finds a key used up is one of the script
pub plays_to_key : {seal : Sealing} {setup : Setup} (steps : List Step) (past : List Entry) (step : Step) (side : Side) (counter : Counter) (told : List Entry) → Played seal setup steps past
    → Exhausts seal setup past step side counter told → PlaysSteps (steps ++ step ∷ []) (past ++ told)
plays_to_key {seal} {setup} steps past step side counter told played e = of_act step.act refl e.5
  where
    behind : (told : List Entry) → PlaysFrom past (step ∷ []) told → PlaysSteps (steps ++ step ∷ []) (past ++ told)
    behind told h = PlaysFrom-append [] steps (step ∷ []) past told (plays_steps played.plays) h

    of_act : (act : Act) → step.act ≡ act → ActExhausts seal setup past side (session_of side e.1 e.2) step.time act counter told → PlaysSteps (steps ++ step ∷ []) (past ++ told)
    of_act (Feedback sender media payload) is x =
        subst (λ es. PlaysSteps (steps ++ step ∷ []) (past ++ es)) (sym x.2)
        (behind (Called side step.time call.Application ∷ []) ([], (Feedback sender media payload, λ i. step_at (e.0 i) step.time (is i) ∷ [], tt), refl))
    of_act Tick is x =
        subst (λ es. PlaysSteps (steps ++ step ∷ []) (past ++ es)) (sym x.1)
        (behind (Ticked side step.time ∷ x.0)
        ([], (Tick, λ i. step_at (e.0 i) step.time (is i) ∷ [], refl), plays_none (past ++ Ticked side step.time ∷ []) x.0 (seals_only seal setup x.0 x.2.right)))
    of_act (Write write) is x = absurd x
    of_act (Deliver k) is x = absurd x
    of_act (Foreign kind bytes) is x = absurd x
    of_act (Ask ssrc kind) is x = absurd x
    of_act (Rate ssrc rate) is x = absurd x
