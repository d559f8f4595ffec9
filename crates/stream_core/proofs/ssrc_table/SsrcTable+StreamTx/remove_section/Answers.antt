use Rattle.std.proofs.Common.{rules, ap, ◌∙◌}
use Rattle.indexmap.proofs.CallerLemmas.{filter-RetainsPairs}
use Rattle.stream_core.specs.Removing.{sent_without}
use Rattle.stream_core.proofs.ssrc_table.SsrcTable+StreamTx.remove_section.Goals as goal

pub returns : goal.returns
returns c = filter-RetainsPairs _ _ _ (λ k v b w f call. search rules) _ _ c.retain.ensures.filtered ∙ ap (sent_without c.args.mid) c.self.view_is
