use Rattle.session_turns.proofs.Sessions.{all_cut, not_zero}
use Rattle.session_turns.proofs.laws.packets_cut.Goals as goal

pub returns : goal.returns
returns c cipher r after own now xs error sent later quiet keys apart wide fit mirrors drain =
    all_cut cipher r own c.written_header_is_read_again.ensures now fit xs apart wide (not_zero now later) quiet keys mirrors error after sent drain
