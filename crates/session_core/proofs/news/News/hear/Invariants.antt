use Rattle.std.proofs.Common.{◌≡◌, take}
use Rattle.stream_core.specs.StreamsRecord.{StreamsRecord, StandsFor}
use Rattle.session_core.specs.News.{news_heard}
use Rattle.session_core.proofs.news.News.hear.Given as goal

abbrev pub invariant-loop-item : goal.invariant-loop-item
invariant-loop-item g l = (r : StreamsRecord) → StandsFor g.W.GapWindow.remembers g.S.ResendStore.stands_for l.fn.streams r
    → l.self ≡ news_heard l.now r.tx r.rx (take l.item-index l.fn.feedback) l.fn.self
