-- The media sections of a session, by their mids.
use Rattle.std.specs.Prelude.{ℕ, ◌==◌, List, filter, find, not, position, slice_set, Option}
use Rattle.std.specs.Option.{option_map_or}
use Rattle.std.specs.Cmp.Lexicographic.{pointwise}
use Rattle.stream_core.specs.Removing.{sent_without, received_without, known_without_section, kept_without}
use Rattle.session_core.specs.News.{news_without}
use Rattle.session_core.specs.SessionRecord.{MediaRecord, SessionRecord}

-- the first media section of a mid
abbrev pub media_of : List ℕ → List MediaRecord → Option MediaRecord
media_of mid medias = find (λ m. pointwise ◌==◌ m.mid mid) medias

-- the place of that one
abbrev pub media_place : List ℕ → List MediaRecord → Option ℕ
media_place mid medias = position (λ m. pointwise ◌==◌ m.mid mid) medias

-- the media sections with another one in its place
abbrev pub with_media : List ℕ → List MediaRecord → MediaRecord → List MediaRecord
with_media mid medias m = option_map_or (λ i. slice_set medias i m) (media_place mid medias) medias

-- the media sections without those of a mid
abbrev pub medias_without : List ℕ → List MediaRecord → List MediaRecord
medias_without mid medias = filter (λ m. not (pointwise ◌==◌ m.mid mid)) medias

-- the session without the media sections of a mid, without their streams, and without the news that waits to be told of these
abbrev pub without_media : List ℕ → SessionRecord → SessionRecord
without_media mid r = record r {
  state = record r.state { medias = medias_without mid r.state.medias; tx = sent_without mid r.state.tx; news = news_without mid r.state.news };
  rx = received_without mid r.rx;
  known = known_without_section mid r.known;
  repairs = kept_without mid r.state.tx r.repairs;
}
