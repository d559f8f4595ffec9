use Rattle.std.proofs.Common.{rules}
use Rattle.stream_core.proofs.Alongside.{insert_last}
use Rattle.stream_core.proofs.ssrc_table.SsrcTable.add.Goals as goal

pub returns-clause-ok : goal.returns-clause-ok
returns-clause-ok g c =
    let writes = c.in_ok-self-inside.ensures.update.1 in
    insert_last c.self.inside.streams c.args.ssrc c.args.stream _ c.args.self.now c.self.view_is c.requires (search (rules, writes c.args.stream))
