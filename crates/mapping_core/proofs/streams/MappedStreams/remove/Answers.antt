use Rattle.std.proofs.Common.{rules, ap, ◌∙◌}
use Rattle.std.proofs.lemmas.Fn.{filter_same}
use Rattle.std.specs.Prelude.{not}
use Rattle.mapping_core.specs.Streams.{has_main, without}
use Rattle.mapping_core.proofs.streams.MappedStreams.remove.Goals as goal

pub returns : goal.returns
returns c = filter_same _ (λ s. not (has_main c.args.ssrc s)) _ (λ x b f' k. search rules) _ _ c.retain.ensures.filtered
    ∙ ap (without c.args.ssrc) c.self.view_is
