use Rattle.std.proofs.Common.{rules, ap, ◌∙◌}
use Rattle.std.proofs.lemmas.Fn.{filter_same}
use Rattle.std.specs.Prelude.{not, bytes_eq}
use Rattle.session_core.specs.News.{news_without}
use Rattle.session_core.proofs.news.News.remove_section.Goals as goal

pub returns : goal.returns
returns c =
    let keyframes = filter_same _ (λ w. not (bytes_eq w.1.mid c.args.mid)) _ (λ x b f' k. search rules) _ _ c.retain.ensures.filtered in
    let senders = filter_same _ (λ w. not (bytes_eq w.1.mid c.args.mid)) _ (λ x b f' k. search rules) _ _ c.retain-2.ensures.filtered in
    let rates = filter_same _ (λ w. not (bytes_eq w.1.mid c.args.mid)) _ (λ x b f' k. search rules) _ _ c.retain-3.ensures.filtered in
    (λ j. record { keyframes = keyframes j; senders = senders j; rates = rates j }) ∙ ap (news_without c.args.mid) c.self.view_is
