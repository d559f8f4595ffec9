use Rattle.session_turns.proofs.TickedTurn.{ticks_cut}
use Rattle.session_turns.proofs.laws.ticks_cut.Goals as goal

pub returns : goal.returns
returns c = ticks_cut c.packets_cut.ensures c.items_read_back.ensures c.items_fit_by_lengths.ensures
