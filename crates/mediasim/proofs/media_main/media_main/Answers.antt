use Rattle.media_laws.specs.Headline.{SealsAreRight, FirstSendingsAreYielded, NoNonceTwice, SendsWrites, SendsInSome, YieldsWrites, YieldsInSome, NoPacketTwice}
use Rattle.mediasim.specs.RunCommand.{script_sealing}
use Rattle.mediasim.proofs.Whole.{answers_script, plays_all, script_answers, script_holds, script_plays, always_holds}
use Rattle.mediasim.proofs.PaceWhole.{answers_calls, plays_all_calls}
use Rattle.mediasim.proofs.media_main.media_main.Goals as goal

pub returns-clause-script : goal.returns-clause-script
returns-clause-script g c setup acts told = answers_script _ _ _ _ _ _ setup acts _ _ c.script_spells_one.ensures c.answer.ensures.answers told

pub returns-clause-complete : goal.returns-clause-complete
returns-clause-complete g c setup acts order no_read no_write =
    plays_all _ _ _ _ _ _ setup acts _ _ c.script_spells_one.ensures c.answer.ensures.answers order (λ e. no_read (c.answer.ensures.read_fault e)) (λ e. no_write (c.answer.ensures.write_fault e))

pub returns-clause-played : goal.returns-clause-played
returns-clause-played g c setup acts told =
    script_plays _ _ setup acts _ _
    (record { whole = c.plays_steps.ensures.whole; exhausted = c.plays_steps.ensures.exhausted })
    (record { whole = c.plays_steps-2.ensures.whole; exhausted = c.plays_steps-2.ensures.exhausted })
    (answers_script _ _ _ _ _ _ setup acts _ _ c.script_spells_one.ensures c.answer.ensures.answers told)

pub returns-clause-steps : goal.returns-clause-steps
returns-clause-steps g c setup acts told =
    (script_answers _ _ setup acts _ _ (answers_script _ _ _ _ _ _ setup acts _ _ c.script_spells_one.ensures c.answer.ensures.answers told)).steps

pub returns-clause-used_up : goal.returns-clause-used_up
returns-clause-used_up g c setup acts told =
    (script_answers _ _ setup acts _ _ (answers_script _ _ _ _ _ _ setup acts _ _ c.script_spells_one.ensures c.answer.ensures.answers told)).used_up

pub returns-clause-seals : goal.returns-clause-seals
returns-clause-seals g c setup acts told =
    script_holds _ _ setup acts _ _ (SealsAreRight (script_sealing setup) setup) (λ entries h. h.seals) (λ side counter entries h. h.front.seals)
    (answers_script _ _ _ _ _ _ setup acts _ _ c.script_spells_one.ensures c.answer.ensures.answers told)

pub returns-clause-exactly : goal.returns-clause-exactly
returns-clause-exactly g c setup acts told =
    script_holds _ _ setup acts _ _ (FirstSendingsAreYielded setup) (λ entries h. h.exactly) (λ side counter entries h. h.exactly)
    (answers_script _ _ _ _ _ _ setup acts _ _ c.script_spells_one.ensures c.answer.ensures.answers told)

pub returns-clause-nonces : goal.returns-clause-nonces
returns-clause-nonces g c = always_holds _ _ _ _ _ _ _ _ NoNonceTwice (λ seal setup entries h. h.nonces) (λ seal setup side counter entries h. h.front.nonces) c.answer.ensures.answers

pub returns-clause-sendings : goal.returns-clause-sendings
returns-clause-sendings g c setup acts told =
    script_holds _ _ setup acts _ _ (SendsWrites setup) (λ entries h. h.sendings) (λ side counter entries h. h.front.sendings)
    (answers_script _ _ _ _ _ _ setup acts _ _ c.script_spells_one.ensures c.answer.ensures.answers told)

pub returns-clause-sent : goal.returns-clause-sent
returns-clause-sent g c = always_holds _ _ _ _ _ _ _ _ SendsInSome (λ seal setup entries h. (setup, h.sendings)) (λ seal setup side counter entries h. (setup, h.front.sendings)) c.answer.ensures.answers

pub returns-clause-yields : goal.returns-clause-yields
returns-clause-yields g c setup acts told =
    script_holds _ _ setup acts _ _ (YieldsWrites setup) (λ entries h. h.yields) (λ side counter entries h. h.front.yields)
    (answers_script _ _ _ _ _ _ setup acts _ _ c.script_spells_one.ensures c.answer.ensures.answers told)

pub returns-clause-yielded : goal.returns-clause-yielded
returns-clause-yielded g c = always_holds _ _ _ _ _ _ _ _ YieldsInSome (λ seal setup entries h. (setup, h.yields)) (λ seal setup side counter entries h. (setup, h.front.yields)) c.answer.ensures.answers

pub returns-clause-once : goal.returns-clause-once
returns-clause-once g c = always_holds _ _ _ _ _ _ _ _ NoPacketTwice (λ seal setup entries h. h.once) (λ seal setup side counter entries h. h.front.once) c.answer.ensures.answers

pub returns-clause-calls : goal.returns-clause-calls
returns-clause-calls g c rate calls told =
    answers_calls _ _ _ _ _ _ rate calls _ _ c.pace_script_spells_one.ensures c.answer.ensures.answers told

pub returns-clause-paced : goal.returns-clause-paced
returns-clause-paced g c rate calls order no_read no_write =
    plays_all_calls _ _ _ _ _ _ rate calls _ _ c.pace_script_spells_one.ensures c.answer.ensures.answers order
    (λ e. no_read (c.answer.ensures.read_fault e)) (λ e. no_write (c.answer.ensures.write_fault e))
