use Rattle.std.proofs.Common.{ℕ, Option, sym, ap, ◌∙◌}
use Rattle.session_core.specs.News.{put_at}
use Rattle.session_core.proofs.news.put.Goals as goal

pub returns-in-Some-clause-ok : goal.returns-in-Some-clause-ok
returns-in-Some-clause-ok g c = ap (λ (o : Option ℕ). put_at o c.args.ssrc c.args.news c.args.waiting.now.items) (sym (sym c.place_of.ensures.place ∙ c.in-Some.is))

pub returns-in_ok-push_back-in-None-clause-ok : goal.returns-in_ok-push_back-in-None-clause-ok
returns-in_ok-push_back-in-None-clause-ok g c =
    c.in_ok-push_back-in-None.ensures.items
    ∙ ap (λ (o : Option ℕ). put_at o c.args.ssrc c.args.news c.args.waiting.now.items) (sym (sym c.place_of.ensures.place ∙ c.in-None.is))
