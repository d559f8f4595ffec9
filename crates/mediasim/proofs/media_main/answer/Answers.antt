use Rattle.std.proofs.Common.{ℕ, List, [], None, refl, subst}
use Rattle.std.specs.Prelude.{codes, map, string_bytes}
use Rattle.std.proofs.KnownBytes.{Consumes-nil}
use Rattle.mediasim.specs.Command.{IsCommand, Carries}
use Rattle.mediasim.specs.declared.command.Command.{Command}
use Rattle.mediasim.specs.declared.command.Command.TheVariants.{Pace}
use Rattle.mediasim.specs.declared.ends.End.TheVariants.{Usage}
use Rattle.mediasim.proofs.Whole.{command_answers}
use Rattle.mediasim.proofs.media_main.answer.Goals as goal

pub returns-in-None-clause-answers : goal.returns-in-None-clause-answers
returns-in-None-clause-answers g c = record {
  read = [];
  taken = Consumes-nil (g.S.Source.left c.args.source.now);
  end = Usage;
  transcript = None;
  text = codes "fault usage\n";
  cause = (λ named. c.in-None.ensures named.0 named.1, refl, refl, refl);
  tells = c.tell_line.ensures.tells;
}

pub returns-in-Ok-clause-answers : goal.returns-in-Ok-clause-answers
returns-in-Ok-clause-answers g c =
    command_answers _ (map string_bytes c.args.words.now) _ _ _ _ c.in-Ok.bytes.items Pace _ _
    (subst (λ (named : Command). IsCommand (map string_bytes c.args.words.now) named) c.in-Pace.is c.in-Some.ensures)
    c.in-Ok.ensures.all.taken c.in-Ok.ensures.all.at_end c.in-Ok.ensures.short
    (subst (λ (read : List ℕ). Carries Pace read (g.K.Sink.written c.args.sink.now) (g.K.Sink.written c.pace_command.new.sink) c.pace_command.result.end c.pace_command.result.transcript) c.deref-in-Pace.ensures.value c.pace_command.ensures.carries)
