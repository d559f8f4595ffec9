-- What the bytes that a source tells come to.
use Rattle.std.proofs.Common.{◌≡◌, inl, inr, ℕ, ◌<◌, ◌≤◌, List, [], ◌∷◌, ◌++◌, length, take, Some, None, refl, sym, ap, ◌∙◌, subst, arith}
use Rattle.media_laws.specs.Exhausting.{Exhausts}
use Rattle.media_model.specs.declared.entry.Side.{Side}
use Rattle.media_model.specs.declared.setup.CipherName.{CipherName}
use Rattle.media_model.specs.declared.setup.CipherName.TheVariants.{Toy, Sha}
use Rattle.srtp_core.specs.Cipher.{CipherMeaning}
use Rattle.srtp_core.specs.Sha.{sha_meaning}
use Rattle.srtp_core.specs.Toy.{toy_meaning}
use Rattle.media_laws.specs.declared.counter.Counter.{Counter}
use Rattle.std.specs.Prelude.{IfSome}
use Rattle.std.specs.declared.option.Option.{Option}
use Rattle.std.specs.Io.KnownBytes.{Consumes, IsAtEnd, Appends}
use Rattle.std.proofs.KnownBytes.{Appends-trans}
use Rattle.std.proofs.lemmas.List.{append-nil, length-append}
use Rattle.media_model.specs.declared.entry.Entry.{Entry}
use Rattle.media_model.specs.declared.setup.Setup.{Setup as Given}
use Rattle.media_model.specs.declared.step.Step.{Step as ScriptStep}
use Rattle.media_script.specs.Laws.{SpellsOne}
use Rattle.media_script.specs.Spelling.{IsScript}
use Rattle.media_laws.specs.Headline.{HoldsOfRun, HoldsToKey, PlaysSteps}
use Rattle.media_laws.specs.Keys.{sealing_of}
use Rattle.media_laws.specs.Opening.{Sealing}
use Rattle.media_laws.specs.Play.{Played}
use Rattle.mediasim.specs.declared.command.Command.{Command}
use Rattle.mediasim.specs.declared.command.Command.TheVariants.{Run, Pace}
use Rattle.mediasim.specs.declared.ends.End.{End}
use Rattle.mediasim.specs.declared.ends.End.TheVariants.{Done, Setup, Step, KeyExhausted, Call, ReadFault, WriteFault, Memory, Syntax, TooLong, Usage}
use Rattle.mediasim.specs.Command.{IsCommand, Makes, Carries}
use Rattle.mediasim.specs.Ends.{Tells}
use Rattle.mediasim.specs.Lines.{memory_line}
use Rattle.mediasim.specs.MediaMain.{Cause, Answers, TellsScript, RunsScript, AnswersScript, IsInOrder}
use Rattle.mediasim.specs.RunCommand.{meaning_of, script_cipher, script_sealing, RunEnds, RunMakes, EndsInRun, AnswersTo, PlaysToEnd, PlaysAll, UsesUp}
use Rattle.mediasim.proofs.Texts.{front_of_second}

-- what is read to the end of input is all that the source tells
tells_read : (left left' : Option (List ℕ)) (read : List ℕ) (setup : Given) (steps : List ScriptStep) → TellsScript left setup steps → Consumes left left' read → IsAtEnd left'
    → IsScript read setup steps
tells_read None left' read setup steps told taken end = absurd told
tells_read (Some xs) None read setup steps told taken end = absurd taken
tells_read (Some xs) (Some ys) read setup steps told taken end =
    subst (λ (bs : List ℕ). IsScript bs setup steps) (taken ∙ ap (λ (zs : List ℕ). read ++ zs) end ∙ append-nil read) told

-- no more is read than the source tells
pub read_within : (left left' : Option (List ℕ)) (bytes read : List ℕ) → left ≡ Some bytes → Consumes left left' read → length read ≤ length bytes
read_within None left' bytes read is taken = absurd cc
read_within (Some xs) None bytes read is taken = absurd taken
read_within (Some xs) (Some ys) bytes read is taken =
    let same : bytes ≡ read ++ ys = cc (is, taken) in
    let total = length-append read ys in
    let len : length bytes ≡ length (read ++ ys) = ap length same in
    omega (arith, total, len)

tells : (left : Option (List ℕ)) (bytes : List ℕ) (setup : Given) (steps : List ScriptStep) → left ≡ Some bytes → IsScript bytes setup steps → TellsScript left setup steps
tells left bytes setup steps is script = subst (λ (o : Option (List ℕ)). TellsScript o setup steps) (sym is) script

-- what a command makes of the whole input is the cause of its end
made_cause : (limit : ℕ) (words : List (List ℕ)) (left' : Option (List ℕ)) (read : List ℕ) (command : Command) (end : End) (transcript : Option (List Entry)) (text : List ℕ)
    → IsCommand words command → IsAtEnd left' → length read ≤ limit → Makes command read end transcript text
    → Cause limit words left' read end transcript text
made_cause limit words left' read command Done transcript text named whole within h =
    record { command = command; named = named; whole = whole; within = within; makes = h }
made_cause limit words left' read command (Setup fault) transcript text named whole within h =
    record { command = command; named = named; whole = whole; within = within; makes = h }
made_cause limit words left' read command (Step number fault) transcript text named whole within h =
    record { command = command; named = named; whole = whole; within = within; makes = h }
made_cause limit words left' read command (KeyExhausted by counter) transcript text named whole within h =
    record { command = command; named = named; whole = whole; within = within; makes = h }
made_cause limit words left' read command (Syntax line) transcript text named whole within h =
    record { command = command; named = named; whole = whole; within = within; makes = h }
made_cause limit words left' read command Memory transcript text named whole within h =
    inr (record { command = command; named = named; whole = whole; within = within; makes = h })
made_cause limit words left' read command (Call number) transcript text named whole within h =
    record { command = command; named = named; whole = whole; within = within; makes = h }
made_cause limit words left' read Pace ReadFault transcript text named whole within h = absurd h.1
made_cause limit words left' read Pace WriteFault transcript text named whole within h = absurd h.1
made_cause limit words left' read Pace TooLong transcript text named whole within h = absurd h.1
made_cause limit words left' read Pace Usage transcript text named whole within h = absurd h.1
made_cause limit words left' read Run ReadFault transcript text named whole within h = absurd h
made_cause limit words left' read Run WriteFault transcript text named whole within h = absurd h
made_cause limit words left' read Run TooLong transcript text named whole within h = absurd h
made_cause limit words left' read Run Usage transcript text named whole within h = absurd h

pub command_answers : (limit : ℕ) (words : List (List ℕ)) (left left' held held' : Option (List ℕ)) (read : List ℕ) (command : Command) (answer : End) (answered : Option (List Entry))
    → IsCommand words command → Consumes left left' read → IsAtEnd left' → length read ≤ limit → Carries command read held held' answer answered
    → Answers limit words left left' held held' answer answered
command_answers limit words left left' held held' read command answer answered named taken whole within c = record {
  read = read;
  taken = taken;
  end = c.end;
  transcript = c.transcript;
  text = c.text;
  cause = made_cause limit words left' read command c.end c.transcript c.text named whole within c.makes;
  tells = c.tells;
}

-- memory ran out after lines were written
pub tells_memory : (held mid held' : Option (List ℕ)) (lines : List ℕ) (answer : End) (answered : Option (List Entry))
    → Appends held mid lines → Tells mid held' Memory None memory_line answer answered → Tells held held' Memory None (lines ++ memory_line) answer answered
tells_memory held mid held' lines answer answered all (inl t) = inl (t.0, t.1, Appends-trans held mid held' lines memory_line all t.2)
tells_memory held mid held' lines answer answered all (inr t) = inr (t.0, t.1, front_of_second held mid held' lines memory_line all t.2)

-- a script ends as its setup and its steps do
script_made : (setup : Given) (steps : List ScriptStep) (read : List ℕ) (end : End) (transcript : Option (List Entry)) (text : List ℕ)
    → SpellsOne → IsScript read setup steps → RunMakes read end transcript text → EndsInRun setup steps end transcript text
script_made setup steps read Done transcript text one script h =
    let same = one read setup h.setup steps h.steps script h.script in
    subst (λ (s : Given). RunEnds s steps Done transcript text) (sym same.0) (subst (λ (t : List ScriptStep). RunEnds h.setup t Done transcript text) (sym same.1) h.run)
script_made setup steps read (Setup fault) transcript text one script h =
    let same = one read setup h.setup steps h.steps script h.script in
    subst (λ (s : Given). RunEnds s steps (Setup fault) transcript text) (sym same.0)
    (subst (λ (t : List ScriptStep). RunEnds h.setup t (Setup fault) transcript text) (sym same.1) h.run)
script_made setup steps read (Step number fault) transcript text one script h =
    let same = one read setup h.setup steps h.steps script h.script in
    subst (λ (s : Given). RunEnds s steps (Step number fault) transcript text) (sym same.0)
    (subst (λ (t : List ScriptStep). RunEnds h.setup t (Step number fault) transcript text) (sym same.1) h.run)
script_made setup steps read (KeyExhausted by counter) transcript text one script h =
    let same = one read setup h.setup steps h.steps script h.script in
    subst (λ (s : Given). RunEnds s steps (KeyExhausted by counter) transcript text) (sym same.0)
    (subst (λ (t : List ScriptStep). RunEnds h.setup t (KeyExhausted by counter) transcript text) (sym same.1) h.run)
script_made setup steps read (Syntax line) None text one script h = absurd (h.1 setup steps script)
script_made setup steps read (Syntax line) (Some entries) text one script h = absurd h
script_made setup steps read (Call number) transcript text one script h = absurd h
script_made setup steps read Memory None text one script (inl h) = inl h
script_made setup steps read Memory None text one script (inr h) =
    let same = one read setup h.setup steps h.steps script h.script in
    inr (subst (λ (s : Given). RunEnds s steps Memory None text) (sym same.0) (subst (λ (t : List ScriptStep). RunEnds h.setup t Memory None text) (sym same.1) h.run))
script_made setup steps read Memory (Some entries) text one script h = absurd h
script_made setup steps read ReadFault transcript text one script h = absurd h
script_made setup steps read WriteFault transcript text one script h = absurd h
script_made setup steps read TooLong transcript text one script h = absurd h
script_made setup steps read Usage transcript text one script h = absurd h

-- where the words name run, run made it
run_made : (words : List (List ℕ)) (command : Command) (read : List ℕ) (end : End) (transcript : Option (List Entry)) (text : List ℕ)
    → IsCommand words Run → IsCommand words command → Makes command read end transcript text → RunMakes read end transcript text
run_made words Run read end transcript text named is h = h
run_made words Pace read end transcript text named is h = absurd cc

module _ (limit : ℕ) (words : List (List ℕ)) (left left' : Option (List ℕ)) (read : List ℕ) (setup : Given) (steps : List ScriptStep) where
  script_caused : (end : End) (transcript : Option (List Entry)) (text : List ℕ) → SpellsOne → RunsScript words left setup steps → Consumes left left' read
      → Cause limit words left' read end transcript text → EndsInRun setup steps end transcript text
  script_caused Done transcript text one told taken m =
      script_made setup steps read Done transcript text one (tells_read left left' read setup steps told.1 taken m.whole)
      (run_made words m.command read Done transcript text told.0 m.named m.makes)
  script_caused (Setup fault) transcript text one told taken m =
      script_made setup steps read (Setup fault) transcript text one (tells_read left left' read setup steps told.1 taken m.whole)
      (run_made words m.command read (Setup fault) transcript text told.0 m.named m.makes)
  script_caused (Step number fault) transcript text one told taken m =
      script_made setup steps read (Step number fault) transcript text one (tells_read left left' read setup steps told.1 taken m.whole)
      (run_made words m.command read (Step number fault) transcript text told.0 m.named m.makes)
  script_caused (KeyExhausted by counter) transcript text one told taken m =
      script_made setup steps read (KeyExhausted by counter) transcript text one (tells_read left left' read setup steps told.1 taken m.whole)
      (run_made words m.command read (KeyExhausted by counter) transcript text told.0 m.named m.makes)
  script_caused (Syntax line) transcript text one told taken m =
      script_made setup steps read (Syntax line) transcript text one (tells_read left left' read setup steps told.1 taken m.whole)
      (run_made words m.command read (Syntax line) transcript text told.0 m.named m.makes)
  script_caused (Call number) transcript text one told taken m =
      script_made setup steps read (Call number) transcript text one (tells_read left left' read setup steps told.1 taken m.whole)
      (run_made words m.command read (Call number) transcript text told.0 m.named m.makes)
  script_caused Memory transcript text one told taken (inr m) =
      script_made setup steps read Memory transcript text one (tells_read left left' read setup steps told.1 taken m.whole)
      (run_made words m.command read Memory transcript text told.0 m.named m.makes)
  script_caused Memory transcript text one told taken (inl h) =
      subst (λ (t : Option (List Entry)). EndsInRun setup steps Memory t text) (sym h.1) (inl h.2)
  script_caused ReadFault transcript text one told taken h = h.1
  script_caused WriteFault transcript text one told taken h = absurd h
  script_caused TooLong transcript text one told taken h = h.2
  script_caused Usage transcript text one told taken h = h.2

  -- a call in order plays all steps, unless memory runs out
  plays_caused : (end : End) (transcript : Option (List Entry)) (text : List ℕ) → IsInOrder limit words left setup steps → Consumes left left' read
      → Cause limit words left' read end transcript text → EndsInRun setup steps end transcript text → (end ≡ ReadFault → ⊥)
      → PlaysAll setup steps end transcript
  plays_caused Done None text order taken cause ends no_read = absurd ends
  plays_caused Done (Some entries) text order taken cause ends no_read = ends.1
  plays_caused (Setup fault) None text order taken cause ends no_read = absurd (let e = sym order.fine ∙ ends.0 in cc)
  plays_caused (Setup fault) (Some entries) text order taken cause ends no_read = absurd ends
  plays_caused (Step number fault) None text order taken cause ends no_read = absurd ends
  plays_caused (KeyExhausted by counter) None text order taken cause ends no_read = absurd ends
  plays_caused (Step number fault) (Some entries) text order taken cause ends no_read =
      let r = ends.0.1 in
      let valid = order.valid r.0 r.1 entries r.3 r.4 in
      absurd (let e = sym valid ∙ r.5 in cc)
  plays_caused (KeyExhausted by counter) (Some entries) text order taken cause ends no_read = ends.0
  plays_caused (Syntax line) transcript text order taken cause ends no_read = absurd ends
  plays_caused (Call number) transcript text order taken cause ends no_read = absurd ends
  plays_caused ReadFault transcript text order taken cause ends no_read = absurd (no_read refl)
  plays_caused WriteFault transcript text order taken cause ends no_read = absurd ends
  plays_caused Memory None text order taken cause ends no_read = tt
  plays_caused Memory (Some entries) text order taken cause ends no_read = absurd ends
  plays_caused TooLong transcript text order taken cause ends no_read =
      let within = read_within left left' order.bytes read order.told taken in
      let long : limit < length read = cause.1 in
      absurd (omega (arith, within, long, order.short))
  plays_caused Usage transcript text order taken cause ends no_read = absurd (cause.0 (Run, order.command))

pub answers_script : (limit : ℕ) (words : List (List ℕ)) (left left' held held' : Option (List ℕ)) (setup : Given) (steps : List ScriptStep) (answer : End) (answered : Option (List Entry))
    → SpellsOne → Answers limit words left left' held held' answer answered → RunsScript words left setup steps → AnswersScript setup steps held held' answer answered
answers_script limit words left left' held held' setup steps answer answered one a told = record {
  end = a.end;
  transcript = a.transcript;
  text = a.text;
  run = script_caused limit words left left' a.read setup steps a.end a.transcript a.text one told a.taken a.cause;
  tells = a.tells;
}

pub plays_all : (limit : ℕ) (words : List (List ℕ)) (left left' held held' : Option (List ℕ)) (setup : Given) (steps : List ScriptStep) (answer : End) (answered : Option (List Entry))
    → SpellsOne → Answers limit words left left' held held' answer answered → IsInOrder limit words left setup steps
    → (answer ≡ ReadFault → ⊥) → (answer ≡ WriteFault → ⊥) → PlaysAll setup steps answer answered
plays_all limit words left left' held held' setup steps answer answered one a order no_read no_write =
    elim a.tells [
      | inl t ↦
          let told = tells left order.bytes setup steps order.told order.script in
          let ends = script_caused limit words left left' a.read setup steps a.end a.transcript a.text one (order.command, told) a.taken a.cause in
          let all = plays_caused limit words left left' a.read setup steps a.end a.transcript a.text order a.taken a.cause ends (λ e. no_read (t.0 ∙ e)) in
          subst (λ (e : End). PlaysAll setup steps e answered) (sym t.0) (subst (λ (o : Option (List Entry)). PlaysAll setup steps a.end o) (sym t.1) all)
      | inr t ↦ absurd (no_write t.0)
    ]

none_holds : (o : Option (List Entry)) (P : List Entry → Type 0) → o ≡ None → IfSome o P
none_holds None P is = tt
none_holds (Some entries) P is = absurd cc

-- the laws hold for the setup that was read
holds_in : (setup : Given) (steps : List ScriptStep) (end : End) (transcript : Option (List Entry)) (text : List ℕ) (Q : List Entry → Type 0)
    → ((entries : List Entry) → HoldsOfRun (script_sealing setup) setup entries → Q entries)
    → ((side : Side) (counter : Counter) (entries : List Entry) → HoldsToKey (script_sealing setup) setup side counter entries → Q entries)
    → EndsInRun setup steps end transcript text → IfSome transcript Q
holds_in setup steps Done None text Q says at_key h = tt
holds_in setup steps Done (Some entries) text Q says at_key h = says entries h.2
holds_in setup steps (Setup fault) None text Q says at_key h = tt
holds_in setup steps (Setup fault) (Some entries) text Q says at_key h = absurd h
holds_in setup steps (Step number fault) None text Q says at_key h = tt
holds_in setup steps (KeyExhausted by counter) None text Q says at_key h = tt
holds_in setup steps (Step number fault) (Some entries) text Q says at_key h = says entries h.1
holds_in setup steps (KeyExhausted by counter) (Some entries) text Q says at_key h = at_key by counter entries h.1
holds_in setup steps (Syntax line) transcript text Q says at_key h = absurd h
holds_in setup steps (Call number) transcript text Q says at_key h = absurd h
holds_in setup steps ReadFault transcript text Q says at_key h = none_holds transcript Q h
holds_in setup steps WriteFault transcript text Q says at_key h = absurd h
holds_in setup steps Memory None text Q says at_key h = tt
holds_in setup steps Memory (Some entries) text Q says at_key h = absurd h
holds_in setup steps TooLong transcript text Q says at_key h = none_holds transcript Q h
holds_in setup steps Usage transcript text Q says at_key h = none_holds transcript Q h

pub script_holds : (held held' : Option (List ℕ)) (setup : Given) (steps : List ScriptStep) (answer : End) (answered : Option (List Entry)) (Q : List Entry → Type 0)
    → ((entries : List Entry) → HoldsOfRun (script_sealing setup) setup entries → Q entries)
    → ((side : Side) (counter : Counter) (entries : List Entry) → HoldsToKey (script_sealing setup) setup side counter entries → Q entries)
    → AnswersScript setup steps held held' answer answered → IfSome answered Q
script_holds held held' setup steps answer answered Q says at_key a =
    elim a.tells [
      | inl t ↦ subst (λ (o : Option (List Entry)). IfSome o Q) (sym t.1) (holds_in setup steps a.end a.transcript a.text Q says at_key a.run)
      | inr t ↦ none_holds answered Q t.1
    ]

-- how its steps are answered, and that a key is used up
pub record AnswersRightly (setup : Given) (end : End) (transcript : Option (List Entry)) : Type 0 where
  pub steps : AnswersTo (script_sealing setup) setup end transcript
  pub used_up : UsesUp setup end transcript

nothing_answered : (seal : Sealing) (setup : Given) (end : End) → AnswersTo seal setup end None
nothing_answered seal setup Done = tt
nothing_answered seal setup (Setup fault) = tt
nothing_answered seal setup (Step number fault) = tt
nothing_answered seal setup (KeyExhausted by counter) = tt
nothing_answered seal setup (Call number) = tt
nothing_answered seal setup (Syntax line) = tt
nothing_answered seal setup ReadFault = tt
nothing_answered seal setup WriteFault = tt
nothing_answered seal setup Memory = tt
nothing_answered seal setup TooLong = tt
nothing_answered seal setup Usage = tt

nothing_used : (setup : Given) (end : End) → UsesUp setup end None
nothing_used setup Done = tt
nothing_used setup (Setup fault) = tt
nothing_used setup (Step number fault) = tt
nothing_used setup (KeyExhausted by counter) = tt
nothing_used setup (Call number) = tt
nothing_used setup (Syntax line) = tt
nothing_used setup ReadFault = tt
nothing_used setup WriteFault = tt
nothing_used setup Memory = tt
nothing_used setup TooLong = tt
nothing_used setup Usage = tt

answers_none : (setup : Given) (end : End) (transcript : Option (List Entry)) → transcript ≡ None → AnswersRightly setup end transcript
answers_none setup end transcript none =
    subst (AnswersRightly setup end) (sym none) (record { steps = nothing_answered (script_sealing setup) setup end; used_up = nothing_used setup end })

answers_in : (setup : Given) (steps : List ScriptStep) (end : End) (transcript : Option (List Entry)) (text : List ℕ) → EndsInRun setup steps end transcript text
    → AnswersRightly setup end transcript
answers_in setup steps Done None text h = absurd h
answers_in setup steps Done (Some entries) text h = record { steps = h.2.steps; used_up = tt }
answers_in setup steps (Setup fault) None text h = record { steps = tt; used_up = tt }
answers_in setup steps (Setup fault) (Some entries) text h = absurd h
answers_in setup steps (Step number fault) None text h = absurd h
answers_in setup steps (Step number fault) (Some entries) text h = record { steps = h.1.steps; used_up = tt }
answers_in setup steps (KeyExhausted by counter) None text h = absurd h
answers_in setup steps (KeyExhausted by counter) (Some entries) text h = record { steps = h.1.steps; used_up = h.1.used_up }
answers_in setup steps (Syntax line) transcript text h = absurd h
answers_in setup steps (Call number) transcript text h = absurd h
answers_in setup steps ReadFault transcript text h = answers_none setup ReadFault transcript h
answers_in setup steps WriteFault transcript text h = absurd h
answers_in setup steps Memory None text h = record { steps = tt; used_up = tt }
answers_in setup steps Memory (Some entries) text h = absurd h
answers_in setup steps TooLong transcript text h = answers_none setup TooLong transcript h
answers_in setup steps Usage transcript text h = answers_none setup Usage transcript h

pub script_answers : (held held' : Option (List ℕ)) (setup : Given) (steps : List ScriptStep) (answer : End) (answered : Option (List Entry))
    → AnswersScript setup steps held held' answer answered → AnswersRightly setup answer answered
script_answers held held' setup steps answer answered a =
    elim a.tells [
      | inl t ↦
          subst (λ (e : End). AnswersRightly setup e answered) (sym t.0)
          (subst (λ (o : Option (List Entry)). AnswersRightly setup a.end o) (sym t.1) (answers_in setup steps a.end a.transcript a.text a.run))
      | inr t ↦ answers_none setup answer answered t.1
    ]

-- what holds under each cipher holds under the one of a name
under_named : (P : CipherMeaning → Type 0) → P toy_meaning → P sha_meaning → (name : CipherName) → P (meaning_of name)
under_named P toy sha Toy = toy
under_named P toy sha Sha = sha

-- a run plays each step of its script once, in order, up to the one that finds a key used up
pub record Playing (cipher : CipherMeaning) : Type 0 where
  pub whole : (setup : Given) (steps : List ScriptStep) (entries : List Entry) → Played (sealing_of cipher setup) setup steps entries → PlaysSteps steps entries
  pub exhausted : (setup : Given) (steps : List ScriptStep) (entries : List Entry) (step : ScriptStep) (side : Side) (counter : Counter)
      (told : List Entry) → Played (sealing_of cipher setup) setup steps entries → Exhausts (sealing_of cipher setup) setup entries step side counter told
      → PlaysSteps (steps ++ step ∷ []) (entries ++ told)

-- the steps that were played are those of the script
plays_in : (setup : Given) (steps : List ScriptStep) (end : End) (transcript : Option (List Entry)) (text : List ℕ) → Playing (script_cipher setup)
    → EndsInRun setup steps end transcript text → PlaysToEnd steps end transcript
plays_in setup steps Done None text law h = absurd h
plays_in setup steps Done (Some entries) text law h = law.whole setup steps entries h.1
plays_in setup steps (Setup fault) None text law h = refl
plays_in setup steps (Setup fault) (Some entries) text law h = absurd h
plays_in setup steps (Step number fault) None text law h = absurd h
plays_in setup steps (KeyExhausted by counter) None text law h = absurd h
plays_in setup steps (Step number fault) (Some entries) text law h = let r = h.0.1 in (r.0, r.2, law.whole setup (take r.0 steps) entries r.4)
plays_in setup steps (KeyExhausted by counter) (Some entries) text law h =
    let r = h.0.1 in (
      r.before,
      r.step,
      r.stands,
      subst (λ (es : List Entry). PlaysSteps (take r.before steps ++ r.step ∷ []) es) (sym r.stops.entries_are)
          (law.exhausted setup (take r.before steps) r.stops.past r.step by counter r.stops.told r.stops.played r.stops.exhausts),
    )
plays_in setup steps (Syntax line) transcript text law h = absurd h
plays_in setup steps (Call number) transcript text law h = absurd h
plays_in setup steps ReadFault transcript text law h = h
plays_in setup steps WriteFault transcript text law h = absurd h
plays_in setup steps Memory None text law h = refl
plays_in setup steps Memory (Some entries) text law h = absurd h
plays_in setup steps TooLong transcript text law h = h
plays_in setup steps Usage transcript text law h = h

pub script_plays : (held held' : Option (List ℕ)) (setup : Given) (steps : List ScriptStep) (answer : End) (answered : Option (List Entry))
    → Playing toy_meaning → Playing sha_meaning → AnswersScript setup steps held held' answer answered → PlaysToEnd steps answer answered
script_plays held held' setup steps answer answered toy sha a =
    let law = under_named Playing toy sha setup.cipher in
    elim a.tells [
      | inl t ↦
          subst (λ (e : End). PlaysToEnd steps e answered) (sym t.0)
          (subst (λ (o : Option (List Entry)). PlaysToEnd steps a.end o) (sym t.1) (plays_in setup steps a.end a.transcript a.text law a.run))
      | inr t ↦ subst (λ (e : End). PlaysToEnd steps e answered) (sym t.0) t.1
    ]

-- what holds of each transcript, whatever the input was
always_made : (read : List ℕ) (end : End) (transcript : Option (List Entry)) (text : List ℕ) (command : Command) (Q : List Entry → Type 0)
    → ((seal : Sealing) (setup : Given) (entries : List Entry) → HoldsOfRun seal setup entries → Q entries)
    → ((seal : Sealing) (setup : Given) (side : Side) (counter : Counter) (entries : List Entry) → HoldsToKey seal setup side counter entries → Q entries)
    → Makes command read end transcript text → IfSome transcript Q
always_made read end transcript text Pace Q says at_key h = none_holds transcript Q h.0
always_made read (Call number) transcript text Run Q says at_key h = absurd h
always_made read Done None text Run Q says at_key h = tt
always_made read Done (Some entries) text Run Q says at_key h = says (script_sealing h.setup) h.setup entries h.run.2
always_made read (Setup fault) None text Run Q says at_key h = tt
always_made read (Setup fault) (Some entries) text Run Q says at_key h = absurd h.run
always_made read (Step number fault) None text Run Q says at_key h = tt
always_made read (KeyExhausted by counter) None text Run Q says at_key h = tt
always_made read (Step number fault) (Some entries) text Run Q says at_key h = says (script_sealing h.setup) h.setup entries h.run.1
always_made read (KeyExhausted by counter) (Some entries) text Run Q says at_key h = at_key (script_sealing h.setup) h.setup by counter entries h.run.1
always_made read (Syntax line) None text Run Q says at_key h = tt
always_made read (Syntax line) (Some entries) text Run Q says at_key h = absurd h
always_made read Memory None text Run Q says at_key h = tt
always_made read Memory (Some entries) text Run Q says at_key h = absurd h
always_made read ReadFault transcript text Run Q says at_key h = absurd h
always_made read WriteFault transcript text Run Q says at_key h = absurd h
always_made read TooLong transcript text Run Q says at_key h = absurd h
always_made read Usage transcript text Run Q says at_key h = absurd h

always_caused : (limit : ℕ) (words : List (List ℕ)) (left' : Option (List ℕ)) (read : List ℕ) (end : End) (transcript : Option (List Entry)) (text : List ℕ) (Q : List Entry → Type 0)
    → ((seal : Sealing) (setup : Given) (entries : List Entry) → HoldsOfRun seal setup entries → Q entries)
    → ((seal : Sealing) (setup : Given) (side : Side) (counter : Counter) (entries : List Entry) → HoldsToKey seal setup side counter entries → Q entries)
    → Cause limit words left' read end transcript text → IfSome transcript Q
always_caused limit words left' read Done transcript text Q says at_key m = always_made read Done transcript text m.command Q says at_key m.makes
always_caused limit words left' read (Setup fault) transcript text Q says at_key m = always_made read (Setup fault) transcript text m.command Q says at_key m.makes
always_caused limit words left' read (Step number fault) transcript text Q says at_key m = always_made read (Step number fault) transcript text m.command Q says at_key m.makes
always_caused limit words left' read (KeyExhausted by counter) transcript text Q says at_key m = always_made read (KeyExhausted by counter) transcript text m.command Q says at_key m.makes
always_caused limit words left' read (Syntax line) transcript text Q says at_key m = always_made read (Syntax line) transcript text m.command Q says at_key m.makes
always_caused limit words left' read (Call number) transcript text Q says at_key m = always_made read (Call number) transcript text m.command Q says at_key m.makes
always_caused limit words left' read Memory transcript text Q says at_key (inl h) = none_holds transcript Q h.1
always_caused limit words left' read Memory transcript text Q says at_key (inr m) = always_made read Memory transcript text m.command Q says at_key m.makes
always_caused limit words left' read ReadFault transcript text Q says at_key h = none_holds transcript Q h.1
always_caused limit words left' read WriteFault transcript text Q says at_key h = absurd h
always_caused limit words left' read TooLong transcript text Q says at_key h = none_holds transcript Q h.2
always_caused limit words left' read Usage transcript text Q says at_key h = none_holds transcript Q h.2

pub always_holds : (limit : ℕ) (words : List (List ℕ)) (left left' held held' : Option (List ℕ)) (answer : End) (answered : Option (List Entry)) (Q : List Entry → Type 0)
    → ((seal : Sealing) (setup : Given) (entries : List Entry) → HoldsOfRun seal setup entries → Q entries)
    → ((seal : Sealing) (setup : Given) (side : Side) (counter : Counter) (entries : List Entry) → HoldsToKey seal setup side counter entries → Q entries)
    → Answers limit words left left' held held' answer answered → IfSome answered Q
always_holds limit words left left' held held' answer answered Q says at_key a =
    elim a.tells [
      | inl t ↦
          subst (λ (o : Option (List Entry)). IfSome o Q) (sym t.1) (always_caused limit words left' a.read a.end a.transcript a.text Q says at_key a.cause)
      | inr t ↦ none_holds answered Q t.1
    ]
