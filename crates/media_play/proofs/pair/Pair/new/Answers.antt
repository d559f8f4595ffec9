use Rattle.std.proofs.Common.{◌≡◌, ◌∙◌, [], sym, ap, subst, arith}
use Rattle.media_model.specs.declared.entry.Side.TheVariants.{A, B}
use Rattle.media_model.specs.Entries.{last_time}
use Rattle.run_model.specs.Whole.{new_session}
use Rattle.media_laws.specs.Config.{config_of}
use Rattle.media_laws.specs.Keys.{sealing_of}
use Rattle.media_laws.specs.Play.{Plays, begins}
use Rattle.media_play.specs.Sessions.{Ready}
use Rattle.media_play.proofs.pair.Pair.new.Goals as goal

pub returns-clause-run : goal.returns-clause-run
returns-clause-run g c =
    let K = g.C.SrtpCipher.meaning in
    let setup = c.args.setup.now in
    let seal = sealing_of K setup in
    let C = config_of seal setup in
    let none : c.new-3.result ≡ [] = c.new-3.ensures in
    record {
      valid = c.requires;
      a = new_session C A;
      b = new_session C B;
      plays = subst (Plays seal setup (new_session C A) (new_session C B) []) (sym none) begins;
      a_knows = subst (Ready K setup A c.in_ok-new.field-0 (new_session C A)) (sym none) c.in_ok-new.ensures;
      b_knows = subst (Ready K setup B c.in_ok-new-2.field-0 (new_session C B)) (sym none) c.in_ok-new-2.ensures;
      time = c.from_nanos.ensures ∙ ap last_time (sym none);
      a_time = omega arith;
      b_time = omega arith;
    }
