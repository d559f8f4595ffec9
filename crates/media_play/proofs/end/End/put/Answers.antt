use Rattle.std.proofs.Common.{◌≡◌, List, ap, sym, subst, ◌∙◌}
use Rattle.std.proofs.lemmas.Result.{on_ok_weaker}
use Rattle.media_play.specs.Ends.{EndSession}
use Rattle.stream_core.specs.Tables.{change_place}
use Rattle.stream_core.specs.TxRecord.{written}
use Rattle.stream_core.specs.Write.{WriteRecord}
use Rattle.media_play.specs.declared.numbers.Numbers.{Numbers}
use Rattle.media_play.specs.Knowing.{IsNoted}
use Rattle.media_play.specs.Packets.{write_at}
use Rattle.media_play.specs.Sessions.{EndState}
use Rattle.media_play.proofs.Putting.{turned_wrote}
use Rattle.media_play.proofs.end.End.put.Goals as goal

pub returns : goal.returns
returns g c =
    let old = c.args.self.now in
    let place = c.args.place in
    let w = c.args.write.now in
    let session : c.deref_mut.result.now ≡ old.session = c.deref_mut.ensures.value ∙ ap (λ (e : EndState). e.session) c.self.view_is ∙ c.note.ensures.session in
    let numbers : c.self.inside.written.items ≡ c.note.new.self.written = ap (λ (e : EndState). e.written) c.self.view_is in
    let noted : IsNoted place w.number old.written c.self.inside.written.items =
    subst (λ (l : List Numbers). IsNoted place w.number old.written l) (sym numbers) c.in_ok-note.ensures.noted in
    on_ok_weaker c.put.result
    (λ h setup side a entries at there fault fits.
    let is = h
    ∙ ap {A = WriteRecord} {B = EndSession} (λ x. record c.deref_mut.result.now { state = record c.deref_mut.result.now.state { tx = change_place (written x) c.deref_mut.result.now.state.tx place } }) c.in_ok-packet.ensures
    ∙ ap {A = EndSession} {B = EndSession} (λ v. record v { state = record v.state { tx = change_place (written (write_at c.args.time w)) v.state.tx place } }) session in
    turned_wrote c.writes_turn.ensures at w place (record { session = c.put.new.session; written = c.self.inside.written.items }) there fault fits is noted)
    c.put.ensures
