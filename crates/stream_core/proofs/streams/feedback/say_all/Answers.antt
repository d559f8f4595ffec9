use Rattle.std.proofs.Common.{◌≡◌, ◌+◌, ◌-◌, ◌<◌, ◌≤◌, ◌++◌, length, sym, ap, subst, ◌∙◌, arith}
use Rattle.std.specs.Prelude.{ℕ, List}
use Rattle.std.proofs.lemmas.List.{append_assoc, length-drop}
use Rattle.std.specs.List.{AllByRecursion}
use Rattle.std.specs.VecDeque.{deque_len, deque_capacity}
use Rattle.rtcp_wire.specs.declared.packet.Rtcp.{Rtcp}
use Rattle.stream_core.specs.Reporting.{IsBrief, front_count, is_among, rx_after}
use Rattle.stream_core.specs.RxRecord.{RxRecord, StandsFor}
use Rattle.stream_core.specs.Tables.{Along}
use Rattle.stream_core.proofs.Alongside.{each_all, length_along}
use Rattle.stream_core.proofs.RxSteps.{said_all, all_more}
use Rattle.stream_core.proofs.TableSteps.{length_set_value_at}
use Rattle.stream_core.proofs.TickSteps.{says_more, left_less, all_rest, room_for_one, room_for_rest}
use Rattle.stream_core.proofs.streams.feedback.say_all.Goals as goal

pub say-requires-clause-made : goal.say-requires-clause-made
say-requires-clause-made g c =
    let x = c.at_mut-stream.result.now in
    let which = c.is_among-reports.ensures ∙ ap (λ m. is_among m c.args.mids.now) c.mid.ensures in
    let one = ap (λ b. front_count b x.state) which in
    let left = left_less c.args.mids.now c.loop-place.streams c.loop-place.place x x c.at_mut-stream.ensures.value in
    let count = c.loop-place.invariant.count in
    omega arith

pub say-requires-clause-room : goal.say-requires-clause-room
say-requires-clause-room g c =
    let x = c.at_mut-stream.result.now in
    let l = c.loop-place.invariant in
    let i = c.loop-place.place in
    let which = c.is_among-reports.ensures ∙ ap (λ m. is_among m c.args.mids.now) c.mid.ensures in
    let one = ap (λ b. front_count b x.state) which in
    let left = left_less c.args.mids.now c.loop-place.streams i x x c.at_mut-stream.ensures.value in
    let count = l.count in
    let here = length c.loop-place.rest.items - front_count c.is_among-reports.result x.state in
    let is : length c.loop-place.rest.items ≡ front_count c.is_among-reports.result x.state + here = omega arith in
    let long = l.long in
    let end = c.len-place-end.ensures in
    let test = c.loop-place-test.true in
    let within : i < length c.args.streams.now = omega arith in
    let len = l.len in
    let capacity = l.capacity in
    let room = c.requires.room in
    room_for_one c.args.tick.now.is_round (deque_len c.loop-place.feedback) (front_count c.is_among-reports.result x.state) here (length c.loop-place.rest.items) (length c.args.streams.now) i
    (deque_capacity c.loop-place.feedback) within is (omega arith)

pub loop-place-preserved : goal.loop-place-preserved
loop-place-preserved g c =
    let l = c.loop-place.invariant in
    let k = l.brief in
    let more = c.say.ensures.brief in
    let x = c.at_mut-stream.result.now in
    let i = c.loop-place.place in
    let n = front_count c.is_among-reports.result x.state in
    let which = c.is_among-reports.ensures ∙ ap (λ m. is_among m c.args.mids.now) c.mid.ensures in
    let one = ap (λ b. front_count b x.state) which in
    let left = left_less c.args.mids.now c.loop-place.streams i x c.say.new.stream c.at_mut-stream.ensures.value in
    let count = l.count in
    let gone = ap length c.say.ensures.made ∙ length-drop n c.loop-place.rest.items in
    let long = l.long in
    let end = c.len-place-end.ensures in
    let test = c.loop-place-test.true in
    let within : i < length c.args.streams.now = omega arith in
    let is : length c.loop-place.rest.items ≡ n + length c.say.new.made.items = omega arith in
    let longer = room_for_rest c.args.tick.now.is_round (deque_len c.loop-place.feedback) n (length c.say.new.made.items) (length c.loop-place.rest.items) (length c.args.streams.now) i
    (deque_len c.say.new.feedback) within is c.say.ensures.len in
    let len = l.len in
    record {
      long = length_set_value_at c.loop-place.streams c.loop-place.place c.say.new.stream ∙ l.long;
      so_far = λ rs h made.
          let before = l.so_far rs h made in
          says_more g.W.GapWindow.remembers c.args.tick.now c.args.mids.now c.loop-place.streams rs i x c.say.new.stream c.is_among-reports.result
          c.args.feedback.now.items c.loop-place.feedback.items c.say.new.feedback.items c.loop-place.rest.items c.say.new.made.items
          before.0 c.at_mut-stream.ensures.value which c.say.ensures.after c.say.ensures.said c.say.ensures.made before.1 before.2;
      count = omega arith;
      rest_brief = subst (AllByRecursion IsBrief) (sym c.say.ensures.made) (all_rest IsBrief n c.loop-place.rest.items l.rest_brief);
      brief = (
        k.0 ++ more.0,
        more.1 ∙ ap (λ (i : List Rtcp). i ++ more.0) k.1 ∙ append_assoc c.args.feedback.now.items k.0 more.0,
        all_more IsBrief k.0 more.0 k.2 more.2,
      );
      len = omega arith;
      capacity = c.say.ensures.capacity ∙ l.capacity;
    }

pub returns-clause-said : goal.returns-clause-said
returns-clause-said g c = λ rs h made.
    let R = StandsFor g.W.GapWindow.remembers in
    let done = c.loop-place.invariant.so_far rs h made in
    let same = length_along R c.args.streams.now rs h in
    let ended = c.loop-place-test.false in
    let count = c.len-place-end.ensures in
    let long : length rs ≤ c.loop-place.place = omega arith in (
      subst (λ (l : List (ℕ × RxRecord)). Along R c.loop-place.streams l)
          (each_all (λ (r : RxRecord). rx_after c.args.tick.now (is_among r.state.mid c.args.mids.now) r) rs c.loop-place.place long) done.0,
      done.1 ∙ ap (λ (l : List Rtcp). c.args.feedback.now.items ++ l) (said_all c.args.tick.now c.args.mids.now rs c.loop-place.place long),
    )
