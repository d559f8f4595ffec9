use Rattle.std.proofs.Common.{rules, ℕ, List, ap, ◌∙◌}
use Rattle.std.specs.List.{filter}
use Rattle.std.specs.Prelude.{not}
use Rattle.indexmap.proofs.CallerLemmas.{filter-RetainsPairs}
use Rattle.stream_core.specs.Removing.{receives_for}
use Rattle.stream_core.proofs.ssrc_table.SsrcTable+Ssrc.remove_received.Goals as goal

pub returns : goal.returns
returns c = filter-RetainsPairs _ _ _ (λ k v b w g call. search rules) _ _ c.retain.ensures.filtered
    ∙ ap (λ (es : List (ℕ × ℕ)). filter (λ e. not (receives_for c.args.mid e.1 c.args.streams.now)) es) c.self.view_is
