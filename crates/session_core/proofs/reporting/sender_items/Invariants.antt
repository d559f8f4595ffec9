use Rattle.std.proofs.Common.{◌≡◌, take}
use Rattle.std.specs.List.{AllByRecursion}
use Rattle.session_core.specs.Feedback.{FitsAlone}
use Rattle.session_core.specs.Reports.{sender_items_with, some_reports}
use Rattle.session_core.proofs.reporting.sender_items.Given as goal

abbrev pub invariant-loop-place : goal.invariant-loop-place
invariant-loop-place g l = record {
  some : l.some ≡ some_reports l.medias l.mids (take l.place l.streams.tx);
  said : l.items.items ≡ sender_items_with l.time.types.now l.time.beginning.now l.medias l.time.moment l.mids (take l.place l.streams.tx);
  fit : AllByRecursion FitsAlone l.items.items;
}
