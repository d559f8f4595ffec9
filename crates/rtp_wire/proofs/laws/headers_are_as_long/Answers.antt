use Rattle.rtp_wire.proofs.HeaderLengths.{plain_is_as_long, has_fixed_bytes, has_few_bytes}
use Rattle.rtp_wire.proofs.laws.headers_are_as_long.Goals as goal

pub returns-clause-plain : goal.returns-clause-plain
returns-clause-plain c = plain_is_as_long

pub returns-clause-fixed : goal.returns-clause-fixed
returns-clause-fixed c = has_fixed_bytes

pub returns-clause-few : goal.returns-clause-few
returns-clause-few c = has_few_bytes
