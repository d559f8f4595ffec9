use Rattle.std.proofs.Common.{rules}
use Rattle.std.proofs.lemmas.Fn.{filter_same}
use Rattle.std.specs.Prelude.{not, bytes_eq}
use Rattle.session_core.proofs.media.remove_section.Goals as goal

pub returns : goal.returns
returns c = filter_same _ (λ m. not (bytes_eq m.mid c.args.mid)) _ (λ x b f' k. search rules) _ _ c.retain.ensures.filtered
