use Rattle.std.proofs.Common.{◌≡◌, List, Some, sym, ap, ◌∙◌}
use Rattle.std.specs.List.{position}
use Rattle.media_model.specs.declared.setup.Media.{Media}
use Rattle.media_script.specs.Draft.{is_of, with_stream}
use Rattle.media_script.proofs.MediaLaws.{more, added_at, none_at}
use Rattle.media_script.proofs.media_list.MediaList.push_stream.Goals as goal

pub returns-in_ok-add_stream-in-Some : goal.returns-in_ok-add_stream-in-Some
returns-in_ok-add_stream-in-Some c =
    let mid = c.args.mid in
    let stream = c.args.stream in
    let items = c.self.inside.all.items in
    let place : position (is_of mid) items ≡ Some c.in-Some.at = ap (λ (x : List Media). position (is_of mid) x) c.self.view_is ∙ sym c.position.ensures ∙ c.in-Some.is in
    let value : c.add_stream.new.media ≡ more stream c.index_mut.result.now = c.in_ok-add_stream-in-Some.ensures in
    added_at mid stream items c.in-Some.at c.index_mut.result.now c.add_stream.new.media place (value ∙ ap (more stream) c.index_mut.ensures.value)
    ∙ ap (with_stream mid stream) c.self.view_is

pub returns-in-None : goal.returns-in-None
returns-in-None c = none_at c.args.mid c.args.stream c.args.self.now (sym c.position.ensures ∙ c.in-None.is)
