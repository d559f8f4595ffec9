use Rattle.pace_script.proofs.ScriptLaws.{spells_one}
use Rattle.pace_script.proofs.laws.pace_script_spells_one.Goals as goal

pub returns : goal.returns
returns c = spells_one c.words_are_spelled.ensures c.pieces_are_lines.ensures
