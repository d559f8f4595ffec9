use Rattle.session_turns.proofs.Drains.{seals_are_right}
use Rattle.session_turns.proofs.laws.seals_are_right.Goals as goal

pub returns : goal.returns
returns c = seals_are_right c.written_header_is_read_again.ensures c.tick_items_fit.ensures
