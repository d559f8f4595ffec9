use Rattle.std.proofs.Common.{rules, ap, ◌∙◌}
use Rattle.std.proofs.lemmas.Fn.{filter_same}
use Rattle.std.specs.Prelude.{not, bytes_eq}
use Rattle.mapping_core.specs.Streams.{without_section}
use Rattle.mapping_core.proofs.streams.MappedStreams.remove_section.Goals as goal

pub returns : goal.returns
returns c = filter_same _ (λ s. not (bytes_eq s.mid c.args.mid)) _ (λ x b f' k. search rules) _ _ c.retain.ensures.filtered
    ∙ ap (without_section c.args.mid) c.self.view_is
