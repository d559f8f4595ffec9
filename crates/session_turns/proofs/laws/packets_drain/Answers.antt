use Rattle.session_turns.proofs.Sessions.{all_drained, not_zero}
use Rattle.session_turns.proofs.laws.packets_drain.Goals as goal

pub returns : goal.returns
returns c cipher r after own now xs all later quiet released keys apart wide fit mirrors drains =
    all_drained cipher r own c.written_header_is_read_again.ensures now fit xs apart wide (not_zero now later) quiet keys mirrors after all released drains
