-- What a tick makes of the incoming streams: each still mirrors its plain stream.
use Rattle.std.proofs.Common.{◌≡◌, ℕ, Bool, true, false, List, [], ◌∷◌, map, Option, Some, None, is_some, refl, sym, ap, ◌∙◌, subst}
use Rattle.std.specs.Prelude.{◌&&◌, ◌||◌, not, if◌then◌else◌}
use Rattle.std.specs.List.{AllZip}
use Rattle.repair_core.specs.Rounds.{Heard, wait_of}
use Rattle.repair_core.specs.Entries.{packed}
use Rattle.stream_core.specs.Missing.{pending_in, is_enabled, any_enabled, due_in, asked_in, with_nacked}
use Rattle.stream_core.specs.Pauses.{is_over, checked, on_record, told as stream_told}
use Rattle.stream_core.specs.Reporting.{is_among, with_told, after_report, after_front, rx_after, after_with}
use Rattle.stream_core.specs.RxRecord.{RxState, RxRecord as StreamRx}
use Rattle.stream_core.specs.Tables.{each}
use Rattle.stream_core.specs.declared.reports.Tick.{Tick}
use Rattle.session_core.specs.SessionRecord.{SessionRecord}
use Rattle.run_model.specs.Events.{Incoming}
use Rattle.run_model.specs.Sending.{is_some as is_something}
use Rattle.run_model.specs.RxPlay.{RxRecord, asked_in as plain_asked_in, paused_in, is_pending_in, is_enabled as plain_enabled}
use Rattle.run_model.specs.Asking.{any_enabled as any_plain_enabled, asks_of, ticked_in}
use Rattle.run_model.specs.Whole.{probes}
use Rattle.session_turns.specs.Mirrors.{HasBegun, RxMirrors, RxStands, RxMirror, rx_mirror}

some_same : (o : Option ℕ) → is_some o ≡ is_something o
some_same None = refl
some_same (Some x) = refl

pending_same : (o : Option Heard) → pending_in o ≡ is_pending_in o
pending_same None = refl
pending_same (Some x) = refl

-- a check, as its fields
over_is : (now : ℕ) (o : Option ℕ) → (if is_over o now then None else o) ≡ paused_in now o
over_is now None = refl
over_is now (Some t) = refl

abbrev checked_by : Bool → RxState → RxState
checked_by b s = if b then record s { pause_at = None; untold = true } else s

abbrev asked_by : ℕ → Bool → Bool → StreamRx → StreamRx
asked_by now b e x =
    if b then (if e then record x {
      state = with_nacked (packed None (due_in now x.state.trip x.numbers)) x.state;
      numbers = asked_in now x.state.trip x.numbers;
    } else x) else x

asked_same : (now : ℕ) (trip : Option ℕ) (o : Option Heard) → asked_in now trip o ≡ plain_asked_in now (Some (wait_of trip)) o
asked_same now trip None = refl
asked_same now trip (Some h) = refl

asked_begun : (now wait : ℕ) (o : Option Heard) → HasBegun o → HasBegun (plain_asked_in now (Some wait) o)
asked_begun now wait None h = h
asked_begun now wait (Some past) h = h

module _ (threshold : ℕ) (seen : List (ℕ × List ℕ)) where
  pub enabled_same : (x : StreamRx) (s : Incoming × RxRecord) → RxMirrors threshold seen x s → is_enabled x ≡ plain_enabled s.0 s.1
  enabled_same x s m =
      let pause = ap is_some m.pause ∙ some_same s.1.pause_at in
      let numbers = ap pending_in m.numbers ∙ pending_same s.1.numbers in
      λ i. not (m.suppressed i) && (pause i || numbers i)

  -- a round
  asks_mirror : (now : ℕ) (trip : Option ℕ) (b e : Bool) (x : StreamRx) (s : Incoming × RxRecord) → x.state.trip ≡ trip → RxMirrors threshold seen x s
      → RxMirrors threshold seen (asked_by now b e x) (s.0, record s.1 { numbers = plain_asked_in now (if b && e then Some (wait_of trip) else None) s.1.numbers })
  asks_mirror now trip true true x s known m = record {
    ssrc = m.ssrc;
    roc = m.roc;
    suppressed = m.suppressed;
    threshold_is = m.threshold_is;
    pause = m.pause;
    numbers = (λ i. asked_in now (known i) (m.numbers i)) ∙ asked_same now trip s.1.numbers;
    begun = asked_begun now (wait_of trip) s.1.numbers m.begun;
    repairs = m.repairs;
    seen_main = m.seen_main;
    seen_rtx = m.seen_rtx;
  }
  asks_mirror now trip true false x s known m = m
  asks_mirror now trip false true x s known m = m
  asks_mirror now trip false false x s known m = m

  asks_trip : (now : ℕ) (b e : Bool) (x : StreamRx) → (asked_by now b e x).state.trip ≡ x.state.trip
  asks_trip now true true x = refl
  asks_trip now true false x = refl
  asks_trip now false true x = refl
  asks_trip now false false x = refl

  -- the check of pauses
  check_mirror : (now : ℕ) (b : Bool) (x : StreamRx) (s : Incoming × RxRecord) → RxMirrors threshold seen x s
      → RxMirrors threshold seen (on_record (checked_by b) x) (s.0, record s.1 { pause_at = if b then None else s.1.pause_at })
  check_mirror now true x s m = record {
    ssrc = m.ssrc;
    roc = m.roc;
    suppressed = m.suppressed;
    threshold_is = m.threshold_is;
    pause = refl;
    numbers = m.numbers;
    begun = m.begun;
    repairs = m.repairs;
    seen_main = m.seen_main;
    seen_rtx = m.seen_rtx;
  }
  check_mirror now false x s m = m

  check_trip : (b : Bool) (x : StreamRx) → (on_record (checked_by b) x).state.trip ≡ x.state.trip
  check_trip true x = refl
  check_trip false x = refl

  checks_mirror : (now : ℕ) (x : StreamRx) (s : Incoming × RxRecord) → RxMirrors threshold seen x s
      → RxMirrors threshold seen (on_record (checked now) x) (s.0, record s.1 { pause_at = paused_in now s.1.pause_at })
  checks_mirror now x s m =
      let is = (λ i. if is_over (m.pause i) now then None else s.1.pause_at) ∙ over_is now s.1.pause_at in
      subst (λ (o : Option ℕ). RxMirrors threshold seen (on_record (checked now) x) (s.0, record s.1 { pause_at = o })) is
      (check_mirror now (is_over x.state.pause_at now) x s m)

  told_mirror : (x : StreamRx) (s : Incoming × RxRecord) → RxMirrors threshold seen x s → RxMirrors threshold seen (on_record stream_told x) s
  told_mirror x s m = record {
    ssrc = m.ssrc;
    roc = m.roc;
    suppressed = m.suppressed;
    threshold_is = m.threshold_is;
    pause = m.pause;
    numbers = m.numbers;
    begun = m.begun;
    repairs = m.repairs;
    seen_main = m.seen_main;
    seen_rtx = m.seen_rtx;
  }

  -- a tick of a stream
  tick_mirror : (now : ℕ) (trip : Option ℕ) (b : Bool) (x : StreamRx) (s : Incoming × RxRecord) → x.state.trip ≡ trip → RxMirrors threshold seen x s
      → RxMirrors threshold seen (on_record (checked now) (asked_by now b (is_enabled x) x)) (ticked_in now b (wait_of trip) s)
  tick_mirror now trip b x s known m =
      let asks = subst (λ (e : Bool). RxMirrors threshold seen (asked_by now b (is_enabled x) x) (s.0, record s.1 { numbers = plain_asked_in now (if b && e then Some (wait_of trip) else None) s.1.numbers }))
      (enabled_same x s m) (asks_mirror now trip b (is_enabled x) x s known m) in
      checks_mirror now (asked_by now b (is_enabled x) x) (s.0, record s.1 { numbers = plain_asked_in now (asks_of b (wait_of trip) s) s.1.numbers }) asks

  -- a report tells of the stream, and leaves its mirror
  report_mirror : (t : Tick) (reports : Bool) (x : StreamRx) (s : Incoming × RxRecord) → RxMirrors threshold seen x s → RxMirrors threshold seen (after_report t reports x) s
  report_mirror t true x s m = record {
    ssrc = m.ssrc;
    roc = m.roc;
    suppressed = m.suppressed;
    threshold_is = m.threshold_is;
    pause = m.pause;
    numbers = m.numbers;
    begun = m.begun;
    repairs = m.repairs;
    seen_main = m.seen_main;
    seen_rtx = m.seen_rtx;
  }
  report_mirror t false x s m = m

  report_trip : (t : Tick) (reports : Bool) (x : StreamRx) → (after_report t reports x).state.trip ≡ x.state.trip
  report_trip t true x = refl
  report_trip t false x = refl

  -- what it asks its sender for does not stand in it
  requests_mirror : (x : StreamRx) (s : Incoming × RxRecord) → RxMirrors threshold seen x s → RxMirrors threshold seen (on_record with_told x) s
  requests_mirror x s m = record {
    ssrc = m.ssrc;
    roc = m.roc;
    suppressed = m.suppressed;
    threshold_is = m.threshold_is;
    pause = m.pause;
    numbers = m.numbers;
    begun = m.begun;
    repairs = m.repairs;
    seen_main = m.seen_main;
    seen_rtx = m.seen_rtx;
  }

  pub front_stands : (t : Tick) (trip : Option ℕ) (reports : Bool) (e : ℕ × StreamRx) (s : Incoming × RxRecord) → RxStands threshold trip seen e s
      → RxStands threshold trip seen (e.0, after_front t reports e.1) s
  front_stands t trip reports e s h = record {
    key = h.key;
    trip_is = report_trip t reports (on_record with_told e.1) ∙ h.trip_is;
    mirrors = report_mirror t reports (on_record with_told e.1) s (requests_mirror e.1 s h.mirrors);
  }

  ask_stands : (now : ℕ) (trip : Option ℕ) (b : Bool) (e : ℕ × StreamRx) (s : Incoming × RxRecord) → RxStands threshold trip seen e s
      → RxStands threshold trip seen (e.0, on_record stream_told (on_record (checked now) (asked_by now b (is_enabled e.1) e.1))) (ticked_in now b (wait_of trip) s)
  ask_stands now trip b e s h = record {
    key = h.key;
    trip_is = check_trip (is_over (asked_by now b (is_enabled e.1) e.1).state.pause_at now) (asked_by now b (is_enabled e.1) e.1) ∙ asks_trip now b (is_enabled e.1) e.1 ∙ h.trip_is;
    mirrors = told_mirror (on_record (checked now) (asked_by now b (is_enabled e.1) e.1)) (ticked_in now b (wait_of trip) s) (tick_mirror now trip b e.1 s h.trip_is h.mirrors);
  }

  tick_stands : (t : Tick) (trip : Option ℕ) (reports : Bool) (e : ℕ × StreamRx) (s : Incoming × RxRecord) → RxStands threshold trip seen e s
      → RxStands threshold trip seen (e.0, on_record stream_told (on_record (checked t.now) (rx_after t reports e.1))) (ticked_in t.now t.is_round (wait_of trip) s)
  tick_stands t trip reports e s h = ask_stands t.now trip t.is_round (e.0, after_front t reports e.1) s (front_stands t trip reports e s h)

  -- the incoming streams after a tick, in which those of these media sections report, and after all was told
  abbrev pub ticked_rx : Tick → List (List ℕ) → List (ℕ × StreamRx) → List (ℕ × StreamRx)
  ticked_rx t mids rx = each (on_record stream_told) (each (on_record (checked t.now)) (after_with t mids rx))

  all_stand : (t : Tick) (mids : List (List ℕ)) (trip : Option ℕ) (rx : List (ℕ × StreamRx)) (table : List (Incoming × RxRecord)) → AllZip (RxStands threshold trip seen) rx table
      → AllZip (RxStands threshold trip seen) (ticked_rx t mids rx) (map (ticked_in t.now t.is_round (wait_of trip)) table)
  all_stand t mids trip [] [] h = tt
  all_stand t mids trip [] (s ∷ table) h = absurd h
  all_stand t mids trip (e ∷ rx) [] h = absurd h
  all_stand t mids trip (e ∷ rx) (s ∷ table) h = (tick_stands t trip (is_among e.1.state.mid mids) e s h.0, all_stand t mids trip rx table h.1)

  -- some stream asks
  any_same : (trip : Option ℕ) (rx : List (ℕ × StreamRx)) (table : List (Incoming × RxRecord)) → AllZip (RxStands threshold trip seen) rx table → any_enabled rx ≡ any_plain_enabled table
  any_same trip [] [] h = refl
  any_same trip [] (s ∷ table) h = absurd h
  any_same trip (e ∷ rx) [] h = absurd h
  any_same trip (e ∷ rx) (s ∷ table) h =
      let here = enabled_same e.1 s h.0.mirrors in
      let rest = any_same trip rx table h.1 in
      λ i. here i || rest i

-- the stream of the probes asks for nothing
pub probes_rest : (s : Incoming × RxRecord) → s.0 ≡ probes → plain_enabled s.0 s.1 ≡ false
probes_rest s h = λ i. not (h i).suppressed && (is_something s.1.pause_at || is_pending_in s.1.numbers)

no_round : (now : ℕ) (b : Bool) (trip : Option ℕ) (s : Incoming × RxRecord) → s.0 ≡ probes → asks_of b (wait_of trip) s ≡ None
no_round now true trip s h = let rests = probes_rest s h in λ i. if rests i then Some (wait_of trip) else None
no_round now false trip s h = refl

pub enabled_mirrored : (threshold : ℕ) (trip : Option ℕ) (r : SessionRecord) (table : List (Incoming × RxRecord)) → RxMirror threshold trip r table → any_enabled r.rx ≡ any_plain_enabled table
enabled_mirrored threshold trip r _ (rx_mirror s rest is h hs) =
    let here = probes_rest s is in
    any_same threshold r.seen trip r.rx rest hs ∙ sym (λ i. here i || any_plain_enabled rest)

pub rx_ticked_mirror : (threshold : ℕ) (trip : Option ℕ) (t : Tick) (mids : List (List ℕ)) (r after : SessionRecord) (table : List (Incoming × RxRecord)) → RxMirror threshold trip r table
    → after.rx ≡ ticked_rx threshold r.seen t mids r.rx → after.probes ≡ on_record (checked t.now) r.probes → after.seen ≡ r.seen
    → RxMirror threshold trip after (map (ticked_in t.now t.is_round (wait_of trip)) table)
rx_ticked_mirror threshold trip t mids r after _ (rx_mirror s rest is h hs) rx probed known =
    let now : ℕ = t.now in
    let none = no_round now t.is_round trip s is in
    let first : RxMirrors threshold r.seen (on_record (checked now) r.probes) (ticked_in now t.is_round (wait_of trip) s) =
    subst (λ (o : Option ℕ). RxMirrors threshold r.seen (on_record (checked now) r.probes) (s.0, record s.1 { numbers = plain_asked_in now o s.1.numbers; pause_at = paused_in now s.1.pause_at })) (sym none)
    (checks_mirror threshold r.seen now r.probes s h) in
    rx_mirror (ticked_in now t.is_round (wait_of trip) s) (map (ticked_in now t.is_round (wait_of trip)) rest) is
    (subst (λ (y : StreamRx). RxMirrors threshold after.seen y (ticked_in now t.is_round (wait_of trip) s)) (sym probed)
    (subst (λ (l : List (ℕ × List ℕ)). RxMirrors threshold l (on_record (checked now) r.probes) (ticked_in now t.is_round (wait_of trip) s)) (sym known) first))
    (subst (λ (l : List (ℕ × StreamRx)). AllZip (RxStands threshold trip after.seen) l (map (ticked_in now t.is_round (wait_of trip)) rest)) (sym rx)
    (subst (λ (l : List (ℕ × List ℕ)). AllZip (RxStands threshold trip l) (ticked_rx threshold r.seen t mids r.rx) (map (ticked_in now t.is_round (wait_of trip)) rest)) (sym known)
    (all_stand threshold r.seen t mids trip r.rx rest hs)))
