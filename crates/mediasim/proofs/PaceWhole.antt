-- What the bytes of a pace script come to.
use Rattle.std.proofs.Common.{◌≡◌, inl, inr, ℕ, zero, suc, ◌<◌, ◌≤◌, Bool, true, false, ◌&&◌, List, [], ◌∷◌, ◌++◌, length, take, Some, None, refl, sym, ap, ◌∙◌, subst, arith}
use Rattle.std.specs.Prelude.{slice_get}
use Rattle.std.specs.declared.option.Option.{Option}
use Rattle.std.specs.Io.KnownBytes.{Consumes, IsAtEnd}
use Rattle.std.proofs.lemmas.List.{append-nil}
use Rattle.media_model.specs.declared.entry.Entry.{Entry}
use Rattle.pace_core.specs.declared.run.PaceCall.{PaceCall}
use Rattle.pace_core.specs.Past.{Past, made}
use Rattle.pace_core.specs.Run.{told, past_of, may_come, may_all_come}
use Rattle.pace_script.specs.Laws.{SpellsOne}
use Rattle.pace_script.specs.Spelling.{IsPaceScript}
use Rattle.mediasim.specs.declared.command.Command.{Command}
use Rattle.mediasim.specs.declared.command.Command.TheVariants.{Run, Pace}
use Rattle.mediasim.specs.declared.ends.End.{End}
use Rattle.mediasim.specs.declared.ends.End.TheVariants.{Done, Setup, Step, KeyExhausted, Call, ReadFault, WriteFault, Memory, Syntax, TooLong, Usage}
use Rattle.mediasim.specs.Command.{IsCommand, Makes}
use Rattle.mediasim.specs.Ends.{Tells}
use Rattle.mediasim.specs.MediaMain.{Cause, Answers, TellsCalls, RunsCalls, ArePaced}
use Rattle.mediasim.specs.PaceCommand.{PaceEnds, PaceMakes, EndsInPace, AnswersCalls, PlaysAllCalls}
use Rattle.mediasim.proofs.Whole.{read_within}

-- what is read to the end of input is all that the source tells
calls_read : (left left' : Option (List ℕ)) (read : List ℕ) (rate : ℕ) (calls : List PaceCall) → TellsCalls left rate calls → Consumes left left' read
    → IsAtEnd left' → IsPaceScript read rate calls
calls_read None left' read rate calls told taken end = absurd told
calls_read (Some xs) None read rate calls told taken end = absurd taken
calls_read (Some xs) (Some ys) read rate calls told taken end =
    subst (λ (bs : List ℕ). IsPaceScript bs rate calls) (taken ∙ ap (λ (zs : List ℕ). read ++ zs) end ∙ append-nil read) told

-- where the words name pace, pace made it, and there is no transcript
pace_made : (words : List (List ℕ)) (command : Command) (read : List ℕ) (end : End) (transcript : Option (List Entry)) (text : List ℕ)
    → IsCommand words Pace → IsCommand words command → Makes command read end transcript text → (transcript ≡ None) × PaceMakes read end text
pace_made words Pace read end transcript text named is h = h
pace_made words Run read end transcript text named is h = absurd cc

-- a pace script ends as its calls do
calls_made : (rate : ℕ) (calls : List PaceCall) (read : List ℕ) (end : End) (text : List ℕ)
    → SpellsOne → IsPaceScript read rate calls → PaceMakes read end text → EndsInPace rate calls end text
calls_made rate calls read Done text one script h =
    let same = one read rate h.rate calls h.calls script h.script in
    subst (λ (r : ℕ). PaceEnds r calls Done text) (sym same.0) (subst (λ (cs : List PaceCall). PaceEnds h.rate cs Done text) (sym same.1) h.run)
calls_made rate calls read (Call number) text one script h =
    let same = one read rate h.rate calls h.calls script h.script in
    subst (λ (r : ℕ). PaceEnds r calls (Call number) text) (sym same.0)
    (subst (λ (cs : List PaceCall). PaceEnds h.rate cs (Call number) text) (sym same.1) h.run)
calls_made rate calls read (Syntax line) text one script h = absurd (h.1 rate calls script)
calls_made rate calls read Memory text one script h = h
calls_made rate calls read (Setup fault) text one script h = absurd h
calls_made rate calls read (Step number fault) text one script h = absurd h
calls_made rate calls read (KeyExhausted by counter) text one script h = absurd h
calls_made rate calls read ReadFault text one script h = absurd h
calls_made rate calls read WriteFault text one script h = absurd h
calls_made rate calls read TooLong text one script h = absurd h
calls_made rate calls read Usage text one script h = absurd h

-- where all calls may come, each may
may_come_at : (past : Past) (calls : List PaceCall) (i : ℕ) (call : PaceCall) → may_all_come past calls ≡ true → slice_get calls i ≡ Some call
    → may_come (past_of past (take i calls)) call ≡ true
may_come_at past [] i call all at = absurd cc
may_come_at past (c ∷ calls) zero call all at = go (may_come past c) refl all where
  go : (b : Bool) → may_come past c ≡ b → (b && may_all_come (told past c) calls) ≡ true → may_come past call ≡ true
  go true p e = let is : c ≡ call = cc in subst (λ (x : PaceCall). may_come past x ≡ true) is p
  go false p e = absurd cc
may_come_at past (c ∷ calls) (suc i) call all at = go (λ e. may_come_at (told past c) calls i call e at) (may_come past c) all where
  go : (may_all_come (told past c) calls ≡ true → may_come (past_of (told past c) (take i calls)) call ≡ true)
      → (b : Bool) → (b && may_all_come (told past c) calls) ≡ true → may_come (past_of (told past c) (take i calls)) call ≡ true
  go rest true e = rest e
  go rest false e = absurd cc

module _ (limit : ℕ) (words : List (List ℕ)) (left left' : Option (List ℕ)) (read : List ℕ) (rate : ℕ) (calls : List PaceCall) where
  -- there is no transcript
  pub record Caused (end : End) (transcript : Option (List Entry)) (text : List ℕ) : Type 0 where
    pub none : transcript ≡ None
    pub ends : EndsInPace rate calls end text

  made_caused : (command : Command) (end : End) (transcript : Option (List Entry)) (text : List ℕ) → SpellsOne → RunsCalls words left rate calls → Consumes left left' read
      → IsCommand words command → IsAtEnd left' → Makes command read end transcript text → Caused end transcript text
  made_caused command end transcript text one told taken named whole h =
      let m = pace_made words command read end transcript text told.0 named h in
      record { none = m.0; ends = calls_made rate calls read end text one (calls_read left left' read rate calls told.1 taken whole) m.1 }

  pub calls_caused : (end : End) (transcript : Option (List Entry)) (text : List ℕ) → SpellsOne → RunsCalls words left rate calls → Consumes left left' read
      → Cause limit words left' read end transcript text → Caused end transcript text
  calls_caused Done transcript text one told taken m = made_caused m.command Done transcript text one told taken m.named m.whole m.makes
  calls_caused (Setup fault) transcript text one told taken m = made_caused m.command (Setup fault) transcript text one told taken m.named m.whole m.makes
  calls_caused (Step number fault) transcript text one told taken m =
      made_caused m.command (Step number fault) transcript text one told taken m.named m.whole m.makes
  calls_caused (KeyExhausted by counter) transcript text one told taken m =
      made_caused m.command (KeyExhausted by counter) transcript text one told taken m.named m.whole m.makes
  calls_caused (Call number) transcript text one told taken m = made_caused m.command (Call number) transcript text one told taken m.named m.whole m.makes
  calls_caused (Syntax line) transcript text one told taken m = made_caused m.command (Syntax line) transcript text one told taken m.named m.whole m.makes
  calls_caused Memory transcript text one told taken (inr m) = made_caused m.command Memory transcript text one told taken m.named m.whole m.makes
  calls_caused Memory transcript text one told taken (inl h) = record { none = h.1; ends = h.2 }
  calls_caused ReadFault transcript text one told taken h = record { none = h.1; ends = h.2 }
  calls_caused WriteFault transcript text one told taken h = absurd h
  calls_caused TooLong transcript text one told taken h = record { none = h.2; ends = h.3 }
  calls_caused Usage transcript text one told taken h = absurd (h.0 (Pace, told.0))

pub answers_calls : (limit : ℕ) (words : List (List ℕ)) (left left' held held' : Option (List ℕ)) (rate : ℕ) (calls : List PaceCall) (answer : End) (answered : Option (List Entry))
    → SpellsOne → Answers limit words left left' held held' answer answered → RunsCalls words left rate calls → AnswersCalls rate calls held held' answer answered
answers_calls limit words left left' held held' rate calls answer answered one a told =
    let c = calls_caused limit words left left' a.read rate calls a.end a.transcript a.text one told a.taken a.cause in
    record {
      end = a.end;
      text = a.text;
      run = c.ends;
      tells = subst (λ (t : Option (List Entry)). Tells held held' a.end t a.text answer answered) c.none a.tells;
    }

-- calls that may all come are played to the last, unless memory runs out
plays_calls : (limit : ℕ) (words : List (List ℕ)) (left left' : Option (List ℕ)) (read : List ℕ) (rate : ℕ) (calls : List PaceCall) (end : End) (transcript : Option (List Entry)) (text : List ℕ)
    → ArePaced limit words left rate calls → Consumes left left' read → Cause limit words left' read end transcript text → EndsInPace rate calls end text
    → (end ≡ ReadFault → ⊥) → PlaysAllCalls end
plays_calls limit words left left' read rate calls Done transcript text order taken cause ends no_read = tt
plays_calls limit words left left' read rate calls (Call number) transcript text order taken cause ends no_read =
    let at = ends.cause in
    let come = may_come_at (made (Some rate)) calls ends.before at.0 order.come at.1 in
    absurd (let e = sym come ∙ at.3 in cc)
plays_calls limit words left left' read rate calls (Setup fault) transcript text order taken cause ends no_read = absurd ends
plays_calls limit words left left' read rate calls (Step number fault) transcript text order taken cause ends no_read = absurd ends
plays_calls limit words left left' read rate calls (KeyExhausted by counter) transcript text order taken cause ends no_read = absurd ends
plays_calls limit words left left' read rate calls (Syntax line) transcript text order taken cause ends no_read = absurd ends
plays_calls limit words left left' read rate calls ReadFault transcript text order taken cause ends no_read = absurd (no_read refl)
plays_calls limit words left left' read rate calls WriteFault transcript text order taken cause ends no_read = absurd ends
plays_calls limit words left left' read rate calls Memory transcript text order taken cause ends no_read = tt
plays_calls limit words left left' read rate calls TooLong transcript text order taken cause ends no_read =
    let within = read_within left left' order.bytes read order.told taken in
    let long : limit < length read = cause.1 in
    absurd (omega (arith, within, long, order.short))
plays_calls limit words left left' read rate calls Usage transcript text order taken cause ends no_read = absurd ends

pub plays_all_calls : (limit : ℕ) (words : List (List ℕ)) (left left' held held' : Option (List ℕ)) (rate : ℕ) (calls : List PaceCall) (answer : End) (answered : Option (List Entry))
    → SpellsOne → Answers limit words left left' held held' answer answered → ArePaced limit words left rate calls
    → (answer ≡ ReadFault → ⊥) → (answer ≡ WriteFault → ⊥) → PlaysAllCalls answer
plays_all_calls limit words left left' held held' rate calls answer answered one a order no_read no_write =
    elim a.tells [
      | inl t ↦
          let told : TellsCalls left rate calls = subst (λ (o : Option (List ℕ)). TellsCalls o rate calls) (sym order.told) order.script in
          let c = calls_caused limit words left left' a.read rate calls a.end a.transcript a.text one (order.command, told) a.taken a.cause in
          subst (λ (e : End). PlaysAllCalls e) (sym t.0)
          (plays_calls limit words left left' a.read rate calls a.end a.transcript a.text order a.taken a.cause c.ends (λ e. no_read (t.0 ∙ e)))
      | inr t ↦ absurd (no_write t.0)
    ]
