use Rattle.media_script.proofs.ScriptLaws.{spells_one}
use Rattle.media_script.proofs.laws.script_spells_one.Goals as goal

pub returns : goal.returns
returns c = spells_one
