use Rattle.std.proofs.Common.{rules, ℕ, List, ap, ◌∙◌}
use Rattle.std.specs.List.{filter}
use Rattle.indexmap.proofs.CallerLemmas.{filter-RetainsPairs}
use Rattle.stream_core.specs.Removing.{is_of_other}
use Rattle.stream_core.specs.RxRecord.{RxView}
use Rattle.stream_core.proofs.ssrc_table.SsrcTable+StreamRx+W.remove_section.Goals as goal

pub returns : goal.returns
returns g c = filter-RetainsPairs _ _ _ (λ k v b w f call. search rules) _ _ c.retain.ensures.filtered
    ∙ ap (λ (es : List (ℕ × RxView g.row.W.Denot)). filter (λ e. is_of_other c.args.mid e.1.state.mid) es) c.self.view_is
