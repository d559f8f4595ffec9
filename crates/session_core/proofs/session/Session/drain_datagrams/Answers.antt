use Rattle.std.proofs.Common.{◌++◌, ◌∷◌, [], Some, ap, sym, subst, ◌∙◌, false}
use Rattle.std.specs.Prelude.{◌||◌, List}
use Rattle.session_core.specs.declared.datagram.Datagram.{Datagram}
use Rattle.session_core.specs.SessionRecord.{StandsFor}
use Rattle.session_core.specs.Sending.{NextDatagram, DrainsTo, start, more}
use Rattle.session_core.specs.Draining.{stopped_from, stopped_record, at_poll, between_polls}
use Rattle.session_core.proofs.session.Session.drain_datagrams.Goals as goal

pub loop-now-init : goal.loop-now-init
loop-now-init g c =
    let same = c.if-ends.ensures.same in
    record {
      runs = ap (λ v. v.state.stopped) same ∙ c.requires.runs;
      drained = λ r h. (
        r,
        subst (DrainsTo g.C.SrtpCipher.meaning c.args.now r r) (sym c.requires.none) start,
        subst (λ v. StandsFor g.W.GapWindow.remembers g.S.ResendStore.stands_for v r) (sym same) h,
      );
    }

pub returns-then-ends-clause-drained : goal.returns-then-ends-clause-drained
returns-then-ends-clause-drained g c = λ r h.
    let k = c.if-ends.ensures.ended r h in (
      k.0,
      record { last = r; sent = subst (DrainsTo g.C.SrtpCipher.meaning c.args.now r r) (sym c.requires.none) start; ended = k.1 },
      k.2,
    )

pub loop-now-preserved : goal.loop-now-preserved
loop-now-preserved g c =
    let K = g.C.SrtpCipher.meaning in
    let now = c.args.now in
    let l = c.loop-now.invariant in
    record {
      runs = c.in-Ok-Some.ensures.latch ∙ ap (λ b. b || false) l.runs;
      drained = λ r h.
          let here = l.drained r h in
          let k = c.in-Ok-Some.ensures.polled here.0 here.2 in
          let next : NextDatagram K now here.0 k.0 (Some c.in-Ok-Some.datagram) = subst (λ d. NextDatagram K now here.0 k.0 d) c.in-Ok-Some.field-0-is k.1 in (
            k.0,
            subst (λ (d : List Datagram). DrainsTo K now r k.0 d) (sym (c.push_reserved.ensures.items ∙ ap (λ d. d ++ c.in-Ok-Some.datagram ∷ []) c.reserve.ensures.items))
                (more here.0 k.0 c.loop-now.sofar.items c.in-Ok-Some.datagram here.1 next),
            k.2,
          );
    }

pub returns-in-Ok-None-clause-drained : goal.returns-in-Ok-None-clause-drained
returns-in-Ok-None-clause-drained g c = λ r h.
    let K = g.C.SrtpCipher.meaning in
    let now = c.args.now in
    let here = c.loop-now.invariant.drained r h in
    let k = c.in-Ok-None.ensures.polled here.0 here.2 in (
      k.0,
      record {
        last = here.0;
        sent = subst (λ (l : List Datagram). DrainsTo K now r here.0 l) (sym c.reserve.ensures.items) here.1;
        ended = subst (λ d. NextDatagram K now here.0 k.0 d) c.in-Ok-None.field-0-is k.1;
      },
      k.2,
    )

pub returns-then-is_err-clause-sofar : goal.returns-then-is_err-clause-sofar
returns-then-is_err-clause-sofar g c = λ r h.
    let here = c.loop-now.invariant.drained r h in
    let mine = subst (λ s. StandsFor g.W.GapWindow.remembers g.S.ResendStore.stands_for s here.0) (sym c.self.view_is) here.2 in (
      stopped_record here.0,
      between_polls here.0 _ (subst (λ (l : List Datagram). DrainsTo g.C.SrtpCipher.meaning c.args.now r here.0 l) (sym c.reserve.ensures.items) here.1),
      record { state = ap stopped_from mine.state; rx = mine.rx; known = mine.known; probes = mine.probes; seen = mine.seen; repairs = mine.repairs },
    )

pub returns-in-Err-clause-sofar : goal.returns-in-Err-clause-sofar
returns-in-Err-clause-sofar g c = λ r h.
    let here = c.loop-now.invariant.drained r h in
    let k = c.in-Err.ensures.failed c.loop-now.invariant.runs here.0 here.2 in (
      stopped_record k.0,
      at_poll here.0 k.0 c.in-Err.error _ (subst (λ (l : List Datagram). DrainsTo g.C.SrtpCipher.meaning c.args.now r here.0 l) (sym c.reserve.ensures.items) here.1) k.1,
      k.2,
    )
