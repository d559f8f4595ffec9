use Rattle.std.proofs.Common.{List, [], ◌∷◌, map}
use Rattle.std.specs.List.{AllByRecursion}
use Rattle.media_model.specs.declared.entry.Side.{Side}
use Rattle.run_model.specs.Events.{Outgoing}
use Rattle.run_model.specs.TxPlay.{new_tx}
use Rattle.media_play.specs.Knowing.{IsWrittenIn}
use Rattle.media_play.proofs.end.End.new.Goals as goal

wrote_none : (side : Side) (Ls : List Outgoing) → AllByRecursion (IsWrittenIn side []) (map (λ L. (L, new_tx L)) Ls)
wrote_none side [] = tt
wrote_none side (L ∷ Ls) = (λ n h. absurd h, wrote_none side Ls)

pub returns : goal.returns
returns g c =
    let s = c.in_ok-start.ensures in
    record {
      session = s.session;
      stands = s.stands;
      mirrors = s.mirrors;
      types = s.types;
      exts = s.exts;
      runs = s.runs;
      used = c.in_ok-no_numbers.ensures c.args.side;
      wrote = wrote_none c.args.side _;
      fit = s.fit;
    }
