use Rattle.std.proofs.Common.{rules, ap, ◌∙◌}
use Rattle.indexmap.proofs.CallerLemmas.{filter-RetainsPairs}
use Rattle.stream_core.specs.Removing.{kept_without}
use Rattle.stream_core.proofs.ssrc_table.SsrcTable.remove_sent.Goals as goal

pub returns : goal.returns
returns g c = filter-RetainsPairs _ _ _ (λ k v b w f call. search rules) _ _ c.retain.ensures.filtered ∙ ap (kept_without c.args.mid c.args.streams.now) c.self.view_is
