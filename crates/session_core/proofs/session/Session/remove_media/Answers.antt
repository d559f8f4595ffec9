use Rattle.std.proofs.Common.{sym, ap, subst, ◌∙◌}
use Rattle.session_core.specs.Medias.{medias_without}
use Rattle.session_core.specs.News.{news_without}
use Rattle.session_core.specs.SessionRecord.{SessionState, StandsFor, streams_in}
use Rattle.session_core.proofs.StreamsIn.{streams_stand}
use Rattle.session_core.proofs.session.Session.remove_media.Goals as goal

pub returns : goal.returns
returns g c = λ r h.
    let R = g.W.GapWindow.remembers in
    let S = g.S.ResendStore.stands_for in
    let mine = subst (λ s. StandsFor R S s r) (sym c.self.view_is) h in
    let left = c.remove_streams_by_mid.ensures.removed (streams_in r) (streams_stand R S _ r mine) in
    let medias = c.remove_section.ensures ∙ ap (λ (s : SessionState). medias_without c.args.mid s.medias) mine.state in
    let news = c.remove_section-2.ensures ∙ ap (λ (s : SessionState). news_without c.args.mid s.news) mine.state in
    record {
      state = λ j. record (mine.state j) { medias = medias j; tx = left.tx j; pause_threshold = left.threshold j; news = news j };
      rx = left.rx;
      known = left.known;
      probes = mine.probes;
      seen = mine.seen;
      repairs = left.repairs;
    }
