use Rattle.std.proofs.Common.{◌≡◌, inl, Bool, true, false, Option, Some, None, List, [], refl, sym, ap, ◌∙◌, subst}
use Rattle.std.specs.Prelude.{if◌then◌else◌}
use Rattle.std.specs.List.{filter_map, cons_option}
use Rattle.std.proofs.lemmas.List.{take_all}
use denote.Enum.Bare.{sameb}
use Rattle.media_model.specs.contracts.entry.Side as side
use Rattle.media_model.specs.declared.entry.Side.{Side}
use Rattle.media_model.specs.declared.entry.Side.TheVariants.{A, B}
use Rattle.media_model.specs.declared.setup.Setup.{Setup}
use Rattle.media_model.specs.declared.setup.Stream.{Stream}
use Rattle.media_model.specs.Setup.{cache_of}
use Rattle.media_model.specs.Sides.{peer_of, same_side}
use Rattle.run_model.specs.Events.{Outgoing}
use Rattle.run_model.specs.Transcripts.{outgoing_in, outgoing_as}
use Rattle.run_widens.specs.Widens.{AllWiden}
use Rattle.run_widens.proofs.Streams.{stream_more, stream_stops, alone, none}
use Rattle.run_widens.proofs.widens.streams_widen.Goals as goal
use Rattle.run_widens.proofs.widens.streams_widen.Goals.{then-eq+in_ok-line_widens+else-not-branch, else-eq}

same_test : (a b c : Side) → b ≡ c → sameb side.the_type a b ≡ same_side a c
same_test a b c is = go a b ∙ ap (same_side a) is where
  go : (a b : Side) → sameb side.the_type a b ≡ same_side a b
  go A A = refl
  go A B = refl
  go B A = refl
  go B B = refl

abbrev sent_as : Setup → Stream → Outgoing
sent_as setup stream = outgoing_as setup stream (cache_of stream.ssrc setup)

sends : (setup : Setup) (s : Side) (stream : Stream) (b : Bool) → same_side stream.side s ≡ b → outgoing_in setup s stream ≡ (if b then Some (sent_as setup stream) else None)
sends setup s stream b e = ap (λ d. let o : Option Outgoing = if d then Some (sent_as setup stream) else None in o) e

pub returns-then-not-branch : goal.returns-then-not-branch
returns-then-not-branch c =
    let a = c.args in
    let stream = c.stream-item.result in
    let on = sym (c.eq.ensures ∙ same_test stream.side c.peer.result (peer_of a.side) c.peer.ensures) ∙ c.if-eq.true in (
      λ t. absurd cc,
      λ w.
          let here =
          stream_stops a.setup.now a.exts.now a.side a.entries.now a.streams.now c.loop-stream.stream-index c.loop-stream-test.true stream c.stream-item.is (outgoing_in a.setup.now (peer_of a.side)) (sent_as a.setup.now stream)
          (sends a.setup.now (peer_of a.side) stream true on) w in
          absurd (cc (c.in_ok-line_widens.ensures.1 (here (sent_as a.setup.now stream) (inl refl)), c.if-not-branch.true)),
    )

pub loop-stream-preserved : goal.loop-stream-preserved
loop-stream-preserved c =
    let a = c.args in
    let stream = c.stream-item.result in
    let f = outgoing_in a.setup.now (peer_of a.side) in
    let more = stream_more a.setup.now a.exts.now a.side a.entries.now a.streams.now c.loop-stream.stream-index c.loop-stream-test.true stream c.stream-item.is f c.loop-stream.invariant in
    let told : (b : Bool) → c.eq.result ≡ b → f stream ≡ (if b then Some (sent_as a.setup.now stream) else None) = λ b e. sends a.setup.now (peer_of a.side) stream b (sym (c.eq.ensures ∙ same_test stream.side c.peer.result (peer_of a.side) c.peer.ensures) ∙ e) in
    elim c.if-eq.branch [
      | then-eq+in_ok-line_widens+else-not-branch w ↦
          more
          (subst (λ (o : Option Outgoing). AllWiden a.setup.now a.exts.now a.side (cons_option o []) a.entries.now) (sym (told true w.if-eq.true))
          (alone a.setup.now a.exts.now a.side a.entries.now (sent_as a.setup.now stream) (w.in_ok-line_widens.ensures.0 w.if-not-branch.false)))
      | else-eq w ↦
          more
          (subst (λ (o : Option Outgoing). AllWiden a.setup.now a.exts.now a.side (cons_option o []) a.entries.now) (sym (told false w.if-eq.false))
          (none a.setup.now a.exts.now a.side a.entries.now))
    ]

pub returns : goal.returns
returns c =
    let a = c.args in (
      λ t.
          subst (λ (xs : List Stream). AllWiden a.setup.now a.exts.now a.side (filter_map (outgoing_in a.setup.now (peer_of a.side)) xs) a.entries.now)
          (take_all c.loop-stream.stream-index a.streams.now c.loop-stream-test.false) c.loop-stream.invariant,
      λ w. refl,
    )
