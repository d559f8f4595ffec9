use Rattle.stream_core.proofs.Removing.{section_removed}
use Rattle.stream_core.proofs.streams.Streams.remove_streams_by_mid.Goals as goal

pub returns-clause-removed : goal.returns-clause-removed
returns-clause-removed g c =
    section_removed g.W.GapWindow.remembers g.S.ResendStore.stands_for c.args.mid c.args.self.now _ c.remove_section-2.new.self c.remove_section.new.self c.remove_section-3.new.self c.remove_sent.new.self
    c.self.view_is c.remove_section-2.ensures c.remove_section.ensures c.remove_section-3.ensures c.remove_sent.ensures
