-- What a run knows after one step more.
use Rattle.std.proofs.Common.{◌≡◌, ℕ, ◌<◌, ◌≤◌, ◌^◌, Bool, true, false, List, [], ◌∷◌, ◌++◌, Option, Some, None, Result, Ok, Err, IfErr, refl, sym, ap, ◌∙◌, subst, arith}
use Rattle.std.specs.Prelude.{◌==◌, nat_lt}
use Rattle.std.specs.List.{flat_map, AllByRecursion}
use Rattle.std.specs.Result.{IsErrAnd}
use Rattle.std.proofs.lemmas.Bool.{ltb-false}
use Rattle.std.proofs.lemmas.List.{append-nil}
use Rattle.std.proofs.lemmas.List.Concat.{flat_map-append}
use Rattle.srtp_core.specs.Cipher.{CipherMeaning}
use Rattle.media_model.specs.declared.entry.Side.{Side}
use Rattle.media_model.specs.declared.entry.Side.TheVariants.{A, B}
use Rattle.media_model.specs.declared.entry.Sealed.{Sealed as SealedEntry}
use Rattle.media_model.specs.declared.entry.Opened.{Opened as OpenedEntry}
use Rattle.media_model.specs.declared.entry.Packet.{Packet}
use Rattle.media_model.specs.declared.entry.Got.{Got as GotEntry}
use Rattle.media_model.specs.declared.entry.Entry.{Entry}
use Rattle.media_model.specs.declared.entry.Entry.TheVariants.{Sealed, Opened, Yielded}
use Rattle.media_model.specs.declared.step.Step.{Step}
use Rattle.media_model.specs.declared.setup.Setup.{Setup}
use Rattle.media_model.specs.Entries.{write_on, writes_on, time_of, latest, last_time}
use Rattle.media_model.specs.Sides.{same_side}
use Rattle.run_model.specs.Events.{Event, wrote, ticked, called, got}
use Rattle.run_model.specs.Runs.{Happening, on_side}
use Rattle.run_model.specs.Transcripts.{happenings}
use Rattle.run_model.specs.Whole.{Config, Session, session_of, Turns, writes, ticks, calls, requests, opens, hears, stays}
use Rattle.setup_rules.specs.SetupRules.{first_fault}
use Rattle.media_laws.specs.declared.fault.StepFault.{StepFault}
use Rattle.media_laws.specs.declared.fault.StepFault.TheVariants.{TimeZero, TimeBack, TimeBeyond}
use Rattle.media_laws.specs.Keys.{sealing_of}
use Rattle.media_laws.specs.Exhausting.{ActExhausts}
use Rattle.media_laws.specs.Feedback.{next_index}
use Rattle.media_laws.specs.Opening.{Sealing}
use Rattle.media_laws.specs.Play.{AreEntriesOf, IsBroughtBy, Outcome, Plays as PlaysIn, by_a, by_b, wrote as wrote_step, ticked as ticked_step, called as called_step, requested as requested_step, got as got_step}
use Rattle.media_laws.specs.Right.{IsRightSeal}
use Rattle.media_laws.specs.Rules.{or_else, time_fault, step_fault}
use Rattle.media_play.specs.declared.fault.StepError.{StepError}
use Rattle.media_play.specs.declared.fault.StepError.TheVariants.{Memory, Rule, KeyExhausted, Stopped}
use Rattle.media_play.specs.Acting.{Acts, IsActCause, RefusesAct}
use Rattle.media_play.specs.Errors.{IsStepCause}
use Rattle.media_play.specs.Running.{RunState, IsRunOf, PlaysOn}
use Rattle.media_play.specs.Sessions.{EndState, Ready, ReadyAt, TurnsOn}
use Rattle.media_play.proofs.Indices.{plays_index}
use Rattle.media_play.proofs.Turned.{ready_still}

-- the time of a step is that of its side's plain session after it
abbrev pub time_in : Event → ℕ
time_in (wrote time w) = time
time_in (ticked time) = time
time_in (called time) = time
time_in (got time kind bytes) = time
time_in _ = 0

abbrev pub head_time : List Happening → ℕ
head_time [] = 0
head_time (h ∷ hs) = time_in h.1

now_is : {C : Config} {side : Side} {a c : Session} {events : List Event} → Turns C side a c events → head_time (on_side side events) ≡ c.rx.now
now_is (writes time w late unused) = refl
now_is (ticks time new next late drains feedback counts) = refl
now_is (calls time items late others) = refl
now_is (requests time late) = refl
now_is (opens time bytes ssrc n p s late there o) = refl
now_is (hears time bytes index items late report h) = refl
now_is (stays time kind bytes late no_rtp no_rtcp) = refl

latest-push : (ts : List ℕ) (t : ℕ) → latest (ts ++ t ∷ []) ≡ t
latest-push [] t = refl
latest-push (u ∷ []) t = refl
latest-push (u ∷ v ∷ ts) t = latest-push (v ∷ ts) t

last_chunk : (past chunk : List Entry) (t : ℕ) → flat_map time_of chunk ≡ t ∷ [] → last_time (past ++ chunk) ≡ t
last_chunk past chunk t e =
    ap latest (flat_map-append time_of past chunk ∙ ap (λ (ts : List ℕ). flat_map time_of past ++ ts) e) ∙ latest-push (flat_map time_of past) t

-- what a step brings tells no time, and no write of the other side

none_sealed : {X : Type 0} (seal : Sealing) (setup : Setup) (read : Entry → List X) → ((s : SealedEntry) → read (Sealed s) ≡ [])
    → (sealed : List Entry) → AllByRecursion (IsRightSeal seal setup) sealed → flat_map read sealed ≡ []
none_sealed seal setup read none [] h = refl
none_sealed seal setup read none (Sealed s ∷ rest) h = ap (λ xs. xs ++ flat_map read rest) (none s) ∙ none_sealed seal setup read none rest h.1
none_sealed seal setup read none (_ ∷ rest) h = absurd h.0

none_brought : {X : Type 0} (seal : Sealing) (setup : Setup) (came : GotEntry) (read : Entry → List X) → ((o : OpenedEntry) → read (Opened o) ≡ [])
    → ((side : Side) (packet : Packet) → read (Yielded side packet) ≡ [])
    → (brought : List Entry) → AllByRecursion (IsBroughtBy seal setup came) brought → flat_map read brought ≡ []
none_brought seal setup came read opened yielded [] h = refl
none_brought seal setup came read opened yielded (Opened o ∷ rest) h = ap (λ xs. xs ++ flat_map read rest) (opened o) ∙ none_brought seal setup came read opened yielded rest h.1
none_brought seal setup came read opened yielded (Yielded side packet ∷ rest) h =
    ap (λ xs. xs ++ flat_map read rest) (yielded side packet) ∙ none_brought seal setup came read opened yielded rest h.1
none_brought seal setup came read opened yielded (_ ∷ rest) h = absurd h.0

record IsChunk (setup : Setup) (side : Side) (time : ℕ) (chunk : List Entry) : Type 0 where
  times : flat_map time_of chunk ≡ time ∷ []
  head : head_time (happenings setup chunk) ≡ time
  others : (other : Side) → same_side other side ≡ false → (r : ℕ) → writes_on other r chunk ≡ []

chunk_of : {seal : Sealing} {setup : Setup} {past : List Entry} {side : Side} {step : Step} {new : List Entry} → AreEntriesOf seal setup past side step new → IsChunk setup side step.time new
chunk_of {seal} {setup} (wrote_step side time w small early words) = record { times = refl; head = refl; others = λ other apart r. rw apart refl }
chunk_of {seal} {setup} (ticked_step side time sealed right) = record {
  times = ap (λ (ts : List ℕ). time ∷ ts) (none_sealed seal setup time_of (λ s. refl) sealed right);
  head = refl;
  others = λ other apart r. none_sealed seal setup (write_on other r) (λ s. refl) sealed right;
}
chunk_of {seal} {setup} (called_step side time sender media payload s h) = record { times = refl; head = refl; others = λ other apart r. refl }
chunk_of {seal} {setup} (requested_step side time c by quiet) = record { times = refl; head = refl; others = λ other apart r. refl }
chunk_of {seal} {setup} (got_step came brought b all) = record {
  times = ap (λ (ts : List ℕ). came.time ∷ ts) (none_brought seal setup came time_of (λ o. refl) (λ s p. refl) brought all);
  head = refl;
  others = λ other apart r. none_brought seal setup came (write_on other r) (λ o. refl) (λ s p. refl) brought all;
}

-- the rules of times

three : (a b c : Bool) (f g h : StepFault) → first_fault ((a, f) ∷ (b, g) ∷ (c, h) ∷ []) ≡ None → (a ≡ false) × (b ≡ false) × (c ≡ false)
three true b c f g h e = absurd cc
three false true c f g h e = absurd cc
three false false true f g h e = absurd cc
three false false false f g h e = (refl, refl, refl)

pub record InTime (past : List Entry) (time : ℕ) : Type 0 where
  pub some : 0 < time
  pub late : last_time past ≤ time
  pub early : time ≤ 10 ^ 16

positive : (time : ℕ) → time == 0 ≡ false → 0 < time
positive time e = grind (arith, e)

pub in_time : (past : List Entry) (time : ℕ) → time_fault past time ≡ None → InTime past time
in_time past time e =
    let h = three (time == 0) (nat_lt time (last_time past)) (nat_lt (10 ^ 16) time) TimeZero TimeBack TimeBeyond e in
    record { some = positive time h.0; late = ltb-false time (last_time past) h.1; early = ltb-false (10 ^ 16) time h.2 }

-- a run that is another is in time where that is
pub in_time_inside : (run now : RunState) → run ≡ now → (time : ℕ) → (now.latest ≡ last_time now.log → time_fault now.log time ≡ None)
    → run.latest ≡ last_time run.log → time_fault run.log time ≡ None
in_time_inside run now same time h = subst (λ (r : RunState). r.latest ≡ last_time r.log → time_fault r.log time ≡ None) (sym same) h

-- the rules of a step

no_fault : (a b : Option StepFault) → a ≡ None → b ≡ None → or_else a b ≡ None
no_fault a b e f = ap (λ (x : Option StepFault). or_else x b) e ∙ f

first_broken : (a b : Option StepFault) (fault : StepFault) → a ≡ Some fault → or_else a b ≡ Some fault
first_broken a b fault e = ap (λ (x : Option StepFault). or_else x b) e

behind : (a b : Option StepFault) → a ≡ None → or_else a b ≡ b
behind a b e = ap (λ (x : Option StepFault). or_else x b) e

-- of a step that is refused after these entries something is told, and these are the entries then
abbrev pub Tells : CipherMeaning → Setup → List Entry → Step → StepError → List Entry → Type 0
Tells cipher setup past step e new = (told : List Entry) × (new ≡ past ++ told) × IsStepCause cipher setup past step e told

module _ {cipher : CipherMeaning} {setup : Setup} {steps : List Step} {run : RunState} (is_run : IsRunOf cipher setup steps run) where
  -- each end is ready when a step comes in time
  pub ready_a : {side : Side} → side ≡ A → (time : ℕ) → time_fault run.log time ≡ None → ReadyAt cipher setup side run.a is_run.a run.log time
  ready_a is time fine =
      let t = in_time run.log time fine in
      let late : is_run.a.rx.now ≤ time = omega (arith, is_run.a_time, is_run.time, t.late) in
      record { valid = is_run.valid; late = late; early = t.early; some = t.some; ready = subst (λ (s : Side). Ready cipher setup s run.a is_run.a run.log) (sym is) is_run.a_knows }

  pub ready_b : {side : Side} → side ≡ B → (time : ℕ) → time_fault run.log time ≡ None → ReadyAt cipher setup side run.b is_run.b run.log time
  ready_b is time fine =
      let t = in_time run.log time fine in
      let late : is_run.b.rx.now ≤ time = omega (arith, is_run.b_time, is_run.time, t.late) in
      record { valid = is_run.valid; late = late; early = t.early; some = t.some; ready = subst (λ (s : Side). Ready cipher setup s run.b is_run.b run.log) (sym is) is_run.b_knows }

  module _ (step : Step) (new : EndState) (log chunk : List Entry) (valid : step_fault setup run.log step ≡ None) (fine : time_fault run.log step.time ≡ None)
      (added : log ≡ run.log ++ chunk) where
    by_side_a : AreEntriesOf (sealing_of cipher setup) setup run.log A step chunk → TurnsOn cipher setup A is_run.a new run.log chunk
        → PlaysOn cipher setup steps run step (record { a = new; b = run.b; log = log; latest = step.time })
    by_side_a of t =
        let seal = sealing_of cipher setup in
        let is = chunk_of of in
        let late = (in_time run.log step.time fine).late in
        let outcome : Outcome seal setup run.log A is_run.a step t.session chunk = record { valid = valid; are_of = of; events = t.events; read = t.read; turn = t.turn } in
        let now : t.session.rx.now ≡ step.time = sym (now_is t.turn) ∙ ap head_time (sym t.read) ∙ is.head in
        let mine : t.session.rx.now ≤ step.time = omega (arith, now) in
        let others : is_run.b.rx.now ≤ step.time = omega (arith, is_run.b_time, is_run.time, late) in
        record {
          valid = valid;
          is_run = record {
            valid = is_run.valid;
            a = t.session;
            b = is_run.b;
            plays = subst (PlaysIn seal setup t.session is_run.b (steps ++ step ∷ [])) (sym added) (by_a is_run.plays step chunk outcome);
            a_knows = subst (Ready cipher setup A new t.session) (sym added) t.ready;
            b_knows = subst (Ready cipher setup B run.b is_run.b) (sym added) (ready_still is_run.b_knows chunk (is.others B refl));
            time = sym (ap last_time added ∙ last_chunk run.log chunk step.time is.times);
            a_time = mine;
            b_time = others;
          };
          side = A;
          before = is_run.a;
          after = t.session;
          brought = chunk;
          outcome = outcome;
          added = added;
        }

    by_side_b : AreEntriesOf (sealing_of cipher setup) setup run.log B step chunk → TurnsOn cipher setup B is_run.b new run.log chunk
        → PlaysOn cipher setup steps run step (record { a = run.a; b = new; log = log; latest = step.time })
    by_side_b of t =
        let seal = sealing_of cipher setup in
        let is = chunk_of of in
        let late = (in_time run.log step.time fine).late in
        let outcome : Outcome seal setup run.log B is_run.b step t.session chunk = record { valid = valid; are_of = of; events = t.events; read = t.read; turn = t.turn } in
        let now : t.session.rx.now ≡ step.time = sym (now_is t.turn) ∙ ap head_time (sym t.read) ∙ is.head in
        let mine : t.session.rx.now ≤ step.time = omega (arith, now) in
        let others : is_run.a.rx.now ≤ step.time = omega (arith, is_run.a_time, is_run.time, late) in
        record {
          valid = valid;
          is_run = record {
            valid = is_run.valid;
            a = is_run.a;
            b = t.session;
            plays = subst (PlaysIn seal setup is_run.a t.session (steps ++ step ∷ [])) (sym added) (by_b is_run.plays step chunk outcome);
            a_knows = subst (Ready cipher setup A run.a is_run.a) (sym added) (ready_still is_run.a_knows chunk (is.others A refl));
            b_knows = subst (Ready cipher setup B new t.session) (sym added) t.ready;
            time = sym (ap last_time added ∙ last_chunk run.log chunk step.time is.times);
            a_time = others;
            b_time = mine;
          };
          side = B;
          before = is_run.b;
          after = t.session;
          brought = chunk;
          outcome = outcome;
          added = added;
        }

  -- the numbers of RTCP that its plain sessions count are those that the entries tell
  index_a : {side : Side} → side ≡ A → is_run.a.rtcp ≡ next_index setup side run.log
  index_a is = subst (λ (s : Side). is_run.a.rtcp ≡ next_index setup s run.log) (sym is) (plays_index is_run.plays).0

  index_b : {side : Side} → side ≡ B → is_run.b.rtcp ≡ next_index setup side run.log
  index_b is = subst (λ (s : Side). is_run.b.rtcp ≡ next_index setup s run.log) (sym is) (plays_index is_run.plays).1

  -- an act of its side is a step of the run
  pub acts_a : (step : Step) (new : EndState) (log : List Entry) → step.side ≡ A → time_fault run.log step.time ≡ None
      → Acts cipher run.a new run.log log step.side step.time step.act → PlaysOn cipher setup steps run step (record { a = new; b = run.b; log = log; latest = step.time })
  acts_a step new log is fine acts =
      let h = acts setup is_run.a (ready_a is step.time fine) (index_a is) in
      by_side_a step new log h.0 (no_fault _ _ fine h.2.valid) fine h.1
      (subst (λ (s : Side). AreEntriesOf (sealing_of cipher setup) setup run.log s step h.0) is h.2.are_of)
      (subst (λ (s : Side). TurnsOn cipher setup s is_run.a new run.log h.0) is h.2.turns)

  pub acts_b : (step : Step) (new : EndState) (log : List Entry) → step.side ≡ B → time_fault run.log step.time ≡ None
      → Acts cipher run.b new run.log log step.side step.time step.act → PlaysOn cipher setup steps run step (record { a = run.a; b = new; log = log; latest = step.time })
  acts_b step new log is fine acts =
      let h = acts setup is_run.b (ready_b is step.time fine) (index_b is) in
      by_side_b step new log h.0 (no_fault _ _ fine h.2.valid) fine h.1
      (subst (λ (s : Side). AreEntriesOf (sealing_of cipher setup) setup run.log s step h.0) is h.2.are_of)
      (subst (λ (s : Side). TurnsOn cipher setup s is_run.b new run.log h.0) is h.2.turns)

  -- and one that is refused no step
  step_cause : (step : Step) (plain : Session) (e : StepError) (told : List Entry) → time_fault run.log step.time ≡ None → plain ≡ session_of step.side is_run.a is_run.b
      → IsActCause cipher setup step.side plain run.log step.time step.act e told → IsStepCause cipher setup run.log step e told
  step_cause step plain Memory told fine is h = tt
  step_cause step plain (Rule fault) told fine is h = (behind _ _ fine ∙ h.0, h.1)
  step_cause step plain (KeyExhausted by counter) told fine is h = (
    no_fault _ _ fine h.1,
    (
      sym h.0,
      is_run.a,
      is_run.b,
      steps,
      is_run.plays,
      subst (λ (s : Side). ActExhausts (sealing_of cipher setup) setup run.log s (session_of s is_run.a is_run.b) step.time step.act counter told) (sym h.0)
          (subst (λ (p : Session). ActExhausts (sealing_of cipher setup) setup run.log step.side p step.time step.act counter told) is h.2),
    ),
  )
  step_cause step plain Stopped told fine is h = absurd h

  pub refused_a : (step : Step) (new : EndState) (log : List Entry) (e : StepError) → step.side ≡ A → time_fault run.log step.time ≡ None
      → RefusesAct cipher run.a new run.log log step.side step.time step.act e → Tells cipher setup run.log step e log
  refused_a step new log e is fine refuses =
      let h = refuses.causes setup is_run.a (ready_a is step.time fine) (index_a is) in
      (h.0, h.1, step_cause step is_run.a e h.0 fine (ap (λ (s : Side). session_of s is_run.a is_run.b) (sym is)) h.2)

  pub refused_b : (step : Step) (new : EndState) (log : List Entry) (e : StepError) → step.side ≡ B → time_fault run.log step.time ≡ None
      → RefusesAct cipher run.b new run.log log step.side step.time step.act e → Tells cipher setup run.log step e log
  refused_b step new log e is fine refuses =
      let h = refuses.causes setup is_run.b (ready_b is step.time fine) (index_b is) in
      (h.0, h.1, step_cause step is_run.b e h.0 fine (ap (λ (s : Side). session_of s is_run.a is_run.b) (sym is)) h.2)

  -- one whose time breaks a rule
  pub refused_in_time : (step : Step) (fault : StepFault) → time_fault run.log step.time ≡ Some fault → Tells cipher setup run.log step (Rule fault) run.log
  refused_in_time step fault e = ([], sym (append-nil run.log), (first_broken _ _ fault e, refl))

-- what holds of an error holds of the one that is handed on
pub handed_on : {X : Type 0} (P : StepError → Type 0) (r : Result X StepError) (e : StepError) → IsErrAnd r (λ d. d ≡ e) → P e → IfErr r P
handed_on P (Ok x) e is h = tt
handed_on P (Err d) e is h = subst P (sym is) h
