use Rattle.std.proofs.Common.{rules, ap, ◌∙◌}
use Rattle.std.specs.List.{filter}
use Rattle.indexmap.proofs.CallerLemmas.{filter-RetainsPairs}
use Rattle.stream_core.specs.Known.{is_kept}
use Rattle.stream_core.proofs.ssrc_table.SsrcTable+Ssrc.keep_only.Goals as goal

pub returns : goal.returns
returns c = filter-RetainsPairs _ _ _ (λ k v b w g call. search rules) _ _ c.retain.ensures.filtered ∙ ap (filter (is_kept c.args.change.now)) c.self.view_is
