-- A run over entries is, as it is read, a run of plain sessions; and what holds step by step.
use Rattle.std.proofs.Common.{◌≡◌, ◌≤◌, ℕ, true, false, cond, List, [], ◌∷◌, ◌++◌, length, take, map, Option, Some, None, is_some, refl, sym, ap, ◌∙◌, subst, append_assoc}
use Rattle.std.specs.List.{AllByRecursion}
use Rattle.std.proofs.lemmas.List.{append-nil, map-append}
use Rattle.rtp_base.specs.declared.kind.Kind.TheVariants.{Rtp, Rtcp}
use Rattle.srtp_core.specs.RtcpSeals.{sender_of}
use Rattle.media_model.specs.declared.entry.Side.{Side}
use Rattle.media_model.specs.declared.entry.Side.TheVariants.{A, B}
use Rattle.media_model.specs.declared.entry.Got.{Got as GotEntry}
use Rattle.media_model.specs.declared.entry.Sealed.{Sealed as SealedEntry}
use Rattle.media_model.specs.declared.entry.Entry.{Entry}
use Rattle.media_model.specs.declared.entry.Entry.TheVariants.{Wrote, Ticked, Called, Got, Sealed, Opened, Yielded}
use Rattle.media_model.specs.declared.step.Act.TheVariants.{Write, Tick, Feedback}
use Rattle.media_model.specs.declared.step.Step.{Step}
use Rattle.media_model.specs.declared.setup.Setup.{Setup}
use Rattle.media_model.specs.Entries.{moment_of, is_step}
use Rattle.media_model.specs.Sides.{peer_of}
use Rattle.run_model.specs.Events.{Event, ticked as event_ticked, got as event_got, opened, opened_items, yielded}
use Rattle.run_model.specs.Receiving.{yields, lists, Opens}
use Rattle.run_model.specs.Runs.{Happening, on_side}
use Rattle.run_model.specs.RxPlay.{lists_in}
use Rattle.run_model.specs.Seals.{IsReport}
use Rattle.run_model.specs.Transcripts.{happenings, types_of}
use Rattle.run_model.specs.Whole.{Session, session_of, IsSound, Turns, writes, ticks, calls, requests, opens, hears, stays, Played as RunPlayed, begun, of_a, of_b}
use Rattle.media_laws.proofs.Whole.{runs_answer, runs_ask_the_due}
use Rattle.media_laws.specs.Config.{config_of, rtp_sealing, reporting}
use Rattle.media_laws.specs.Feedback.{IsSealOfPacket, sends}
use Rattle.media_laws.specs.Headline.{past_of, IsRightIfSealed, SealsAreRight, TickAnswers, Receives, opens as opens_rtp, opens_rtcp, stays as stays_shut, Answers, AnswersCall, StepsAreAnswered, IsNext, PlaysFrom, PlaysSteps}
use Rattle.media_laws.specs.Listing.{EachFrom, brought, StepsFrom, EachStep}
use Rattle.media_laws.specs.Opening.{Sealing}
use Rattle.media_model.specs.declared.entry.Call.{Call}
use Rattle.media_model.specs.declared.entry.Call.TheVariants as call
use Rattle.media_laws.specs.Play.{IsBroughtBy, is_request, AreEntriesOf, wrote, ticked, called, requested, got, Outcome, Plays, begins, by_a, by_b}
use Rattle.media_laws.specs.Right.{IsRight, right_rtcp, IsRightSeal}
use Rattle.media_laws.proofs.Streams.{HoldsLists, hold_lists}

module _ (P : List Entry → Entry → Type 0) where
  pub EachFrom-append : (past xs ys : List Entry) → EachFrom P past xs → EachFrom P (past ++ xs) ys → EachFrom P past (xs ++ ys)
  EachFrom-append past [] ys h k = subst (λ es. EachFrom P es ys) (append-nil past) k
  EachFrom-append past (x ∷ xs) ys h k = (h.0, EachFrom-append (past ++ x ∷ []) xs ys h.1 (subst (λ es. EachFrom P es ys) (sym (append_assoc past (x ∷ []) xs)) k))

  pub EachFrom-left : (past xs ys : List Entry) → EachFrom P past (xs ++ ys) → EachFrom P past xs
  EachFrom-left past [] ys h = tt
  EachFrom-left past (x ∷ xs) ys h = (h.0, EachFrom-left (past ++ x ∷ []) xs ys h.1)

  -- what holds at each place
  pub EachFrom-places : (past xs : List Entry) → ((front : List Entry) (x : Entry) (rest : List Entry) → xs ≡ front ++ x ∷ rest → P (past ++ front) x) → EachFrom P past xs
  EachFrom-places past [] h = tt
  EachFrom-places past (x ∷ xs) h = (
    subst (λ es. P es x) (append-nil past) (h [] x xs refl),
    EachFrom-places (past ++ x ∷ []) xs (λ front y rest e. subst (λ es. P es y) (sym (append_assoc past (x ∷ []) front)) (h (x ∷ front) y rest (ap (λ (es : List Entry). x ∷ es) e))),
  )

-- a step and what it brings

abbrev pub NoSteps : List Entry → Type 0
NoSteps entries = AllByRecursion (λ entry. is_step entry ≡ false) entries

brought_all : (entries : List Entry) → NoSteps entries → brought entries ≡ entries
brought_all [] none = refl
brought_all (entry ∷ entries) none = ap (λ b. cond b [] (entry ∷ brought entries)) none.0 ∙ ap (λ es. entry ∷ es) (brought_all entries none.1)

brought-append : (xs : List Entry) (step : Entry) (chunk : List Entry) → is_step step ≡ true → brought (xs ++ step ∷ chunk) ≡ brought xs
brought-append [] step chunk is = ap (λ b. cond b [] (step ∷ brought chunk)) is
brought-append (x ∷ xs) step chunk is = ap (λ es. cond (is_step x) [] (x ∷ es)) (brought-append xs step chunk is)

module _ (P : List Entry → Entry → List Entry → Type 0) where
  none_from : (past entries : List Entry) → NoSteps entries → StepsFrom P past entries
  none_from past [] none = tt
  none_from past (entry ∷ entries) none = (λ is. absurd (cc (is, none.0)), none_from (past ++ entry ∷ []) entries none.1)

  more_from : (past xs : List Entry) (step : Entry) (chunk : List Entry) → StepsFrom P past xs → is_step step ≡ true → NoSteps chunk → P (past ++ xs) step chunk
      → StepsFrom P past (xs ++ step ∷ chunk)
  more_from past [] step chunk each is none now = (
    λ _. subst (λ es. P past step es) (sym (brought_all chunk none)) (subst (λ es. P es step chunk) (append-nil past) now),
    none_from (past ++ step ∷ []) chunk none,
  )
  more_from past (x ∷ xs) step chunk each is none now = (
    λ at. subst (λ es. P past x es) (sym (brought-append xs step chunk is)) (each.0 at),
    more_from (past ++ x ∷ []) xs step chunk each.1 is none (subst (λ es. P es step chunk) (sym (append_assoc past (x ∷ []) xs)) now),
  )

  -- a run goes on by one step and what it brings
  pub EachStep-more : (xs : List Entry) (step : Entry) (chunk : List Entry) → EachStep P xs → is_step step ≡ true → NoSteps chunk → P xs step chunk → EachStep P (xs ++ step ∷ chunk)
  EachStep-more xs step chunk each is none now = more_from [] xs step chunk each is none now

-- what a step brings are no steps

pub seals_only : (seal : Sealing) (setup : Setup) (es : List Entry) → AllByRecursion (IsRightSeal seal setup) es → NoSteps es
seals_only seal setup [] h = tt
seals_only seal setup (Sealed s ∷ es) h = (refl, seals_only seal setup es h.1)
seals_only seal setup (Wrote s t w ∷ es) h = absurd h.0
seals_only seal setup (Ticked s t ∷ es) h = absurd h.0
seals_only seal setup (Called s t c ∷ es) h = absurd h.0
seals_only seal setup (Got g ∷ es) h = absurd h.0
seals_only seal setup (Opened o ∷ es) h = absurd h.0
seals_only seal setup (Yielded s p ∷ es) h = absurd h.0

pub brought_only : (seal : Sealing) (setup : Setup) (came : GotEntry) (es : List Entry) → AllByRecursion (IsBroughtBy seal setup came) es → NoSteps es
brought_only seal setup came [] h = tt
brought_only seal setup came (Opened o ∷ es) h = (refl, brought_only seal setup came es h.1)
brought_only seal setup came (Yielded s p ∷ es) h = (refl, brought_only seal setup came es h.1)
brought_only seal setup came (Wrote s t w ∷ es) h = absurd h.0
brought_only seal setup came (Ticked s t ∷ es) h = absurd h.0
brought_only seal setup came (Called s t c ∷ es) h = absurd h.0
brought_only seal setup came (Got g ∷ es) h = absurd h.0
brought_only seal setup came (Sealed s ∷ es) h = absurd h.0

pub record Cuts (new : List Entry) : Type 0 where
  pub first : Entry
  pub rest : List Entry
  pub is : new ≡ first ∷ rest
  pub starts : is_step first ≡ true
  pub none : NoSteps rest

pub cut_new : {seal : Sealing} {setup : Setup} {entries : List Entry} {side : Side} {step : Step} {new : List Entry} → AreEntriesOf seal setup entries side step new → Cuts new
cut_new (wrote side time w a b c) = record { first = Wrote side time w; rest = []; is = refl; starts = refl; none = tt }
cut_new {seal} {setup} (ticked side time sealed all) = record { first = Ticked side time; rest = sealed; is = refl; starts = refl; none = seals_only seal setup sealed all }
cut_new (called side time sender media payload s is) = record { first = _; rest = Sealed s ∷ []; is = refl; starts = refl; none = (refl, tt) }
cut_new (requested side time c by quiet) = record { first = Called side time c; rest = []; is = refl; starts = refl; none = tt }
cut_new {seal} {setup} (got came brought at all) = record { first = Got came; rest = brought; is = refl; starts = refl; none = brought_only seal setup came brought all }

-- a run as it is read

pub happenings-more : (setup : Setup) (xs ys : List Entry) → happenings setup (xs ++ ys) ≡ happenings setup xs ++ happenings setup ys
happenings-more setup xs ys = map-append _ xs ys

pub as_run : {seal : Sealing} {setup : Setup} {a b : Session} {steps : List Step} {entries : List Entry} → Plays seal setup a b steps entries
    → RunPlayed (config_of seal setup) a b (happenings setup entries)
as_run begins = begun
as_run {seal} {setup} (by_a {b = b} {c = c} {entries = entries} h step new o) =
    subst (RunPlayed (config_of seal setup) c b) (sym (happenings-more setup entries new ∙ ap (λ hs. happenings setup entries ++ hs) o.read)) (of_a (as_run h) o.turn)
as_run {seal} {setup} (by_b {a = a} {c = c} {entries = entries} h step new o) =
    subst (RunPlayed (config_of seal setup) a c) (sym (happenings-more setup entries new ∙ ap (λ hs. happenings setup entries ++ hs) o.read)) (of_b (as_run h) o.turn)

-- a step after a run
pub record Taken (seal : Sealing) (setup : Setup) (entries : List Entry) (side : Side) (step : Step) (new : List Entry) : Type 0 where
  pub a : Session
  pub b : Session
  pub c : Session
  pub steps : List Step
  pub plays : Plays seal setup a b steps entries
  pub outcome : Outcome seal setup entries side (session_of side a b) step c new

-- the run with the step
pub plays_more : {seal : Sealing} {setup : Setup} {past : List Entry} {step : Step} {new : List Entry} (side : Side) → Taken seal setup past side step new
    → (a : Session) × (b : Session) × (steps : List Step) × Plays seal setup a b steps (past ++ new)
plays_more {step = step} {new = new} A t = (t.c, t.b, t.steps ++ step ∷ [], by_a t.plays step new t.outcome)
plays_more {step = step} {new = new} B t = (t.a, t.c, t.steps ++ step ∷ [], by_b t.plays step new t.outcome)

pub each_taken : {seal : Sealing} {setup : Setup} {a b : Session} {steps : List Step} {entries : List Entry} (P : List Entry → Type 0) → P []
    → ((past : List Entry) (side : Side) (step : Step) (new : List Entry) → Taken seal setup past side step new → P past → P (past ++ new))
    → Plays seal setup a b steps entries → P entries
each_taken P start more begins = start
each_taken P start more (by_a {a = a} {b = b} {c = c} {steps = steps} {entries = entries} h step new o) =
    more entries A step new (record { a = a; b = b; c = c; steps = steps; plays = h; outcome = o }) (each_taken P start more h)
each_taken P start more (by_b {a = a} {b = b} {c = c} {steps = steps} {entries = entries} h step new o) =
    more entries B step new (record { a = a; b = b; c = c; steps = steps; plays = h; outcome = o }) (each_taken P start more h)

-- a law of what each step brings
pub each_step : {seal : Sealing} {setup : Setup} {a b : Session} {steps : List Step} {entries : List Entry} (P : List Entry → Entry → List Entry → Type 0)
    → ((past : List Entry) (side : Side) (step : Step) (first : Entry) (rest : List Entry) → Taken seal setup past side step (first ∷ rest) → P past first rest)
    → Plays seal setup a b steps entries → EachStep P entries
each_step {seal} {setup} P now h =
    each_taken (EachStep P) tt
    (λ past side step new t each. let f = cut_new t.outcome.are_of in
    subst (λ es. EachStep P (past ++ es)) (sym f.is)
    (EachStep-more P past f.first f.rest each f.starts f.none (now past side step f.first f.rest (subst (Taken seal setup past side step) f.is t)))) h

-- the first event of a step, and what it brings
pub record Heads (x : Happening) (rest : List Happening) (side : Side) (events : List Event) : Type 0 where
  pub event : Event
  pub new : List Event
  pub is : events ≡ event ∷ new
  pub head : x ≡ (side, event)
  pub tail : rest ≡ on_side side new

pub heads : (x : Happening) (rest : List Happening) (side : Side) (events : List Event) → x ∷ rest ≡ on_side side events → Heads x rest side events
heads x rest side [] e = absurd cc
heads x rest side (event ∷ new) e = record { event = event; new = new; is = refl; head = cc e; tail = cc e }

-- what is received

pub receives_of : {seal : Sealing} {setup : Setup} (entries : List Entry) (came : GotEntry) (new all : List Event) {a c : Session} → all ≡ event_got came.time came.kind came.bytes ∷ new
    → HoldsLists (config_of seal setup) came.side a.rx.table (past_of setup came.side entries)
    → Turns (config_of seal setup) came.side a c all → Receives seal setup entries came new
receives_of entries came new all e l (writes time w late unused) = absurd cc
receives_of entries came new all e l (ticks time more next late d f count) = absurd cc
receives_of entries came new all e l (calls time items late others) = absurd cc
receives_of entries came new all e l (requests time late) = absurd cc
receives_of {seal} {setup} entries came new all e l (opens time bytes ssrc n p s late i o) =
    subst (Receives seal setup entries came) news
    (subst (λ ls. Receives seal setup entries came (opened ssrc n p ∷ map yielded (yields (types_of setup) s.0 ls ssrc n p))) (l.same s i)
    (opens_rtp s.0 ssrc n p kind (l.known s i)
    (subst (λ ls. Opens (types_of setup) s.0 (rtp_sealing seal setup (peer_of came.side)) ls came.bytes ssrc n p) (sym (l.same s i))
    (subst (λ bs. Opens (types_of setup) s.0 (rtp_sealing seal setup (peer_of came.side)) (lists_in s.1) bs ssrc n p) same o))))
  where
    kind : came.kind ≡ Rtp
    kind = cc

    same : bytes ≡ came.bytes
    same = cc

    news : opened ssrc n p ∷ map yielded (yields (types_of setup) s.0 (lists_in s.1) ssrc n p) ≡ new
    news = cc
receives_of {seal} {setup} entries came new all e l (hears time bytes index items late report h) =
    subst (Receives seal setup entries came) news (opens_rtcp index items kind (subst (λ bs. IsReport (reporting seal (peer_of came.side)) bs index items) same report))
  where
    kind : came.kind ≡ Rtcp
    kind = cc

    same : bytes ≡ came.bytes
    same = cc

    news : opened_items index items ∷ [] ≡ new
    news = cc
receives_of {seal} {setup} entries came new all e l (stays time kind bytes late out unread) =
    subst (Receives seal setup entries came) news
    (stays_shut
    (λ rtp L i ssrc n p o. let f = l.found L i in
    out (same_kind ∙ rtp) f.0 f.1 ssrc n p
    (subst (λ ls. Opens (types_of setup) f.0.0 (rtp_sealing seal setup (peer_of came.side)) ls bytes ssrc n p) (l.same f.0 f.1)
    (subst (λ K. Opens (types_of setup) K (rtp_sealing seal setup (peer_of came.side)) (lists (types_of setup) K (past_of setup came.side entries)) bytes ssrc n p) f.2
    (subst (λ bs. Opens (types_of setup) L (rtp_sealing seal setup (peer_of came.side)) (lists (types_of setup) L (past_of setup came.side entries)) bs ssrc n p) (sym same) o))))
    (λ rtcp index items r. unread (same_kind ∙ rtcp) index items (subst (λ bs. IsReport (reporting seal (peer_of came.side)) bs index items) (sym same) r)))
  where
    same_kind : kind ≡ came.kind
    same_kind = cc

    same : bytes ≡ came.bytes
    same = cc

    news : [] ≡ new
    news = cc

-- each step is answered

module _ {seal : Sealing} {setup : Setup} (sound : IsSound (config_of seal setup)) where
  pub tick_answers : {past : List Entry} {side : Side} {time : ℕ} {step : Step} {sealed : List Entry} → AllByRecursion (IsRightSeal seal setup) sealed
      → Taken seal setup past side step (Ticked side time ∷ sealed) → TickAnswers seal setup side past time sealed
  tick_answers {past} {side} {time} {sealed = sealed} all t =
      let o = t.outcome in
      let h = heads (side, event_ticked time) (happenings setup sealed) side o.events o.read in
      let is : o.events ≡ event_ticked time ∷ h.new = h.is ∙ ap (λ (z : Happening). z.1 ∷ h.new) (sym h.head) in
      let turn : Turns (config_of seal setup) side (session_of side t.a t.b) t.c (event_ticked time ∷ h.new) = subst (Turns (config_of seal setup) side (session_of side t.a t.b) t.c) is o.turn in
      record {
        only = all;
        new = h.new;
        read = h.tail;
        answers = runs_answer (config_of seal setup) t.a t.b t.c (happenings setup past) side time h.new sound (as_run t.plays) turn;
        asks = runs_ask_the_due (config_of seal setup) t.a t.b t.c (happenings setup past) side time h.new sound (as_run t.plays) turn;
      }

  brings_nothing : (side : Side) (past : List Entry) (c : Call) → is_request c ≡ true → AnswersCall seal setup side past c []
  brings_nothing side past call.Application quiet = absurd cc
  brings_nothing side past call.Ask quiet = refl
  brings_nothing side past call.Remb quiet = refl

  answers : {past : List Entry} {side : Side} {step : Step} {first : Entry} {rest : List Entry} → AreEntriesOf seal setup past side step (first ∷ rest)
      → Taken seal setup past side step (first ∷ rest) → Answers seal setup past first rest
  answers (wrote side time w a b c) t = refl
  answers (ticked side time sealed all) t = tick_answers all t
  answers (called side time sender media payload s is) t = sends sender media payload s is
  answers {past} (requested side time c by quiet) t = brings_nothing side past c quiet
  answers {past} (got came brought at all) t =
      let o = t.outcome in
      let h = heads (came.side, event_got came.time came.kind came.bytes) (happenings setup brought) came.side o.events o.read in
      let is : o.events ≡ event_got came.time came.kind came.bytes ∷ h.new = h.is ∙ ap (λ (z : Happening). z.1 ∷ h.new) (sym h.head) in
      record {
        brought = all;
        new = h.new;
        read = h.tail;
        receives = receives_of past came h.new o.events is (hold_lists sound (as_run t.plays) came.side) o.turn;
      }

  pub steps_are_answered : {a b : Session} {steps : List Step} {entries : List Entry} → Plays seal setup a b steps entries → StepsAreAnswered seal setup entries
  steps_are_answered h = each_step (Answers seal setup) (λ past side step first rest t. answers t.outcome.are_of t) h

-- what is sealed

pub right_seals : (seal : Sealing) (setup : Setup) (past es : List Entry) → AllByRecursion (IsRightSeal seal setup) es → EachFrom (λ past entry. IsRightIfSealed seal setup entry) past es
right_seals seal setup past [] h = tt
right_seals seal setup past (Sealed s ∷ es) h = (h.0, right_seals seal setup (past ++ Sealed s ∷ []) es h.1)
right_seals seal setup past (Wrote s t w ∷ es) h = absurd h.0
right_seals seal setup past (Ticked s t ∷ es) h = absurd h.0
right_seals seal setup past (Called s t c ∷ es) h = absurd h.0
right_seals seal setup past (Got g ∷ es) h = absurd h.0
right_seals seal setup past (Opened o ∷ es) h = absurd h.0
right_seals seal setup past (Yielded s p ∷ es) h = absurd h.0

no_seals : (seal : Sealing) (setup : Setup) (came : GotEntry) (past es : List Entry) → AllByRecursion (IsBroughtBy seal setup came) es → EachFrom (λ past entry. IsRightIfSealed seal setup entry) past es
no_seals seal setup came past [] h = tt
no_seals seal setup came past (Opened o ∷ es) h = (tt, no_seals seal setup came (past ++ Opened o ∷ []) es h.1)
no_seals seal setup came past (Yielded s p ∷ es) h = (tt, no_seals seal setup came (past ++ Yielded s p ∷ []) es h.1)
no_seals seal setup came past (Wrote s t w ∷ es) h = absurd h.0
no_seals seal setup came past (Ticked s t ∷ es) h = absurd h.0
no_seals seal setup came past (Called s t c ∷ es) h = absurd h.0
no_seals seal setup came past (Got g ∷ es) h = absurd h.0
no_seals seal setup came past (Sealed s ∷ es) h = absurd h.0

pub packet_right : {seal : Sealing} {setup : Setup} {past : List Entry} {side : Side} {packet : List ℕ} {s : SealedEntry} → IsSealOfPacket seal setup side past packet s → IsRight seal setup s
packet_right {seal} {side = side} {packet = packet} {s = s} is = right_rtcp (record {
  rtcp = is.kind;
  header = subst (λ p. 8 ≤ length p) (sym is.plain) is.header;
  source = ap (λ p. sender_of (take 8 p)) is.plain ∙ sym is.ssrc;
  small = is.left;
  sealed = is.bytes ∙ (λ i. seal.rtcp (sym is.side i) true s.index (sym is.plain i));
})

right_new : {seal : Sealing} {setup : Setup} {past : List Entry} {side : Side} {step : Step} {new : List Entry} → AreEntriesOf seal setup past side step new
    → EachFrom (λ past entry. IsRightIfSealed seal setup entry) past new
right_new (wrote side time w a b c) = (tt, tt)
right_new {seal} {setup} {past = past} (ticked side time sealed all) = (tt, right_seals seal setup (past ++ Ticked side time ∷ []) sealed all)
right_new (called side time sender media payload s is) = (tt, (packet_right is, tt))
right_new (requested side time c by quiet) = (tt, tt)
right_new {seal} {setup} {past = past} (got came brought at all) = (tt, no_seals seal setup came (past ++ Got came ∷ []) brought all)

pub seals_are_right : {seal : Sealing} {setup : Setup} {a b : Session} {steps : List Step} {entries : List Entry} → Plays seal setup a b steps entries → SealsAreRight seal setup entries
seals_are_right {seal} {setup} h =
    each_taken (λ es. SealsAreRight seal setup es) tt
    (λ past side step new t each. EachFrom-append (λ past entry. IsRightIfSealed seal setup entry) [] past new each (right_new t.outcome.are_of)) h

-- a run plays the steps of its script

next_more : (past : List Entry) (entry : Entry) (moment : Option (Side × ℕ)) (steps rest more : List Step) → IsNext past entry moment steps rest
    → IsNext past entry moment (steps ++ more) (rest ++ more)
next_more past entry None steps rest more is = ap (λ ss. ss ++ more) is
next_more past entry (Some moment) steps rest more is = (is.0, ap (λ ss. ss ++ more) is.1, is.2)

pub PlaysFrom-append : (past : List Entry) (steps more : List Step) (entries new : List Entry) → PlaysFrom past steps entries → PlaysFrom (past ++ entries) more new
    → PlaysFrom past (steps ++ more) (entries ++ new)
PlaysFrom-append past steps more [] new h k =
    subst (λ s. PlaysFrom past (s ++ more) new) (sym h) (subst (λ es. PlaysFrom es more new) (append-nil past) k)
PlaysFrom-append past steps more (entry ∷ entries) new h k = (
  h.0 ++ more,
  next_more past entry (moment_of entry) steps h.0 more h.1,
  PlaysFrom-append (past ++ entry ∷ []) h.0 more entries new h.2 (subst (λ es. PlaysFrom es more new) (sym (append_assoc past (entry ∷ []) entries)) k),
)

-- what is no step plays none
no_moment : (moment : Option (Side × ℕ)) → is_some moment ≡ false → moment ≡ None
no_moment None is = refl
no_moment (Some moment) is = absurd cc

pub plays_none : (past es : List Entry) → NoSteps es → PlaysFrom past [] es
plays_none past [] h = refl
plays_none past (entry ∷ es) h = (
  [],
  subst (λ moment. IsNext past entry moment [] []) (sym (no_moment (moment_of entry) h.0)) refl,
  plays_none (past ++ entry ∷ []) es h.1,
)

one_step : {seal : Sealing} {setup : Setup} {past : List Entry} {side : Side} {step : Step} {new : List Entry} → AreEntriesOf seal setup past side step new → PlaysFrom past (step ∷ []) new
one_step (wrote side time w a b c) = ([], (Write w, refl, refl), refl)
one_step {seal} {setup} {past = past} (ticked side time sealed all) = ([], (Tick, refl, refl), plays_none (past ++ Ticked side time ∷ []) sealed (seals_only seal setup sealed all))
one_step (called side time sender media payload s is) = ([], (Feedback sender media payload, refl, tt), ([], refl, refl))
one_step (requested {act} side time c by quiet) = ([], (act, refl, by), refl)
one_step {seal} {setup} {past = past} (got {act} came brought at all) = ([], (act, refl, at), plays_none (past ++ Got came ∷ []) brought (brought_only seal setup came brought all))

pub plays_steps : {seal : Sealing} {setup : Setup} {a b : Session} {steps : List Step} {entries : List Entry} → Plays seal setup a b steps entries → PlaysSteps steps entries
plays_steps begins = refl
plays_steps (by_a {steps = steps} {entries = entries} h step new o) = PlaysFrom-append [] steps (step ∷ []) entries new (plays_steps h) (one_step o.are_of)
plays_steps (by_b {steps = steps} {entries = entries} h step new o) = PlaysFrom-append [] steps (step ∷ []) entries new (plays_steps h) (one_step o.are_of)
