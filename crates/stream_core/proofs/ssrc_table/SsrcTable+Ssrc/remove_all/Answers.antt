use Rattle.std.proofs.Common.{rules, ap, ◌∙◌}
use Rattle.indexmap.proofs.CallerLemmas.{filter-RetainsPairs}
use Rattle.stream_core.specs.Tables.{without_value}
use Rattle.stream_core.proofs.ssrc_table.SsrcTable+Ssrc.remove_all.Goals as goal

pub returns : goal.returns
returns c = filter-RetainsPairs _ _ _ (λ k v b w g call. search rules) _ _ c.retain.ensures.filtered ∙ ap (without_value c.args.ssrc) c.self.view_is
