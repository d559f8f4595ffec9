use Rattle.session_turns.proofs.TickedTurn.{ticks_turn}
use Rattle.session_turns.proofs.laws.ticks_turn.Goals as goal

pub returns : goal.returns
returns c = ticks_turn c.packets_drain.ensures c.rounds_name_the_due.ensures c.items_read_back.ensures c.items_fit_by_lengths.ensures
