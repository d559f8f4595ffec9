use Rattle.media_script.proofs.WordLaws.{number_spelled, number_again, narrow_spelled, narrow_again, time_spelled, time_again, name_spelled, name_again}
use Rattle.media_script.proofs.laws.words_are_spelled.Goals as goal

pub returns : goal.returns
returns c = record {
  number_spelled = number_spelled;
  number_again = number_again;
  narrow_spelled = narrow_spelled;
  narrow_again = narrow_again;
  time_spelled = time_spelled;
  time_again = time_again;
  name_spelled = name_spelled;
  name_again = name_again;
}
