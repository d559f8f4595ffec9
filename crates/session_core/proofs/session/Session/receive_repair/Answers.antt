use Rattle.std.proofs.Common.{◌≡◌, ℕ, true, List, Some, None, length, drop, nat_eq, position, sym, ap, subst, ◌∙◌, arith}
use Rattle.std.specs.Prelude.{option_and_then}
use Rattle.rtp_base.specs.declared.kind.Kind.TheVariants.{Rtp}
use Rattle.stream_core.specs.Tables.{place_of, value_under}
use Rattle.session_core.specs.Receiving.{Unpads, OpensIn, IsOpening, Takes, cut, takes_repair, takes_nothing, after_repair, after_restoring, after_repaired}
use Rattle.session_core.specs.Repairs.{repair_accepted}
use Rattle.session_core.specs.SessionRecord.{streams_in, SessionRecord, SessionState, SessionView, StandsFor}
use Rattle.session_core.proofs.Others.{opening_kept}
use Rattle.session_core.proofs.Staying.{repair_only, repair_unaccepted, repair_sealed}
use Rattle.session_core.proofs.StreamsIn.{streams_stand}
use Rattle.session_core.proofs.Tables.{length_keys}
use Rattle.session_core.proofs.Failing.{on_err_any}
use Rattle.session_core.proofs.session.Session.receive_repair.Goals as goal

pub restore_packet-requires : goal.restore_packet-requires
restore_packet-requires g c =
    let keys = ap length c.in_ok-take_repair.ensures.places in
    let new = length_keys c.take_repair.new.self.rx in
    let old = length_keys c.self.inside.streams.rx in
    let view = ap (λ (v : SessionView g.row.W.Denot g.row.S.Denot). length v.rx) c.self.view_is in
    let within = c.requires in
    omega arith

pub returns-in_default-clause-received : goal.returns-in_default-clause-received
returns-in_default-clause-received g c = λ r h reads repairs place.
    let R = g.W.GapWindow.remembers in
    let S = g.S.ResendStore.stands_for in
    let mine = subst (λ s. StandsFor R S s r) (sym c.self.view_is) h in
    let here = ap (λ (v : SessionView g.row.W.Denot g.row.S.Denot). place_of c.args.original v.rx) c.self.view_is ∙ place in
    let x = c.args.header.now in
    let none : option_and_then (repair_accepted r.seen x) (value_under c.args.original r.rx) ≡ None =
    sym (c.in_default.ensures.number (streams_in r) r.seen c.args.original (streams_stand R S _ r mine) mine.seen here) in
    (r, takes_nothing (repair_only g.C.SrtpCipher.meaning r c.args.bytes.now x reads c.args.original repairs) (repair_unaccepted g.C.SrtpCipher.meaning r c.args.bytes.now x reads c.args.original repairs none), h)

pub returns-in_default-2-clause-received : goal.returns-in_default-2-clause-received
returns-in_default-2-clause-received g c = λ r h reads repairs place.
    let K = g.C.SrtpCipher in
    let R = g.W.GapWindow.remembers in
    let S = g.S.ResendStore.stands_for in
    let mine = subst (λ s. StandsFor R S s r) (sym c.self.view_is) h in
    let here = ap (λ (v : SessionView g.row.W.Denot g.row.S.Denot). place_of c.args.original v.rx) c.self.view_is ∙ place in
    let x = c.args.header.now in
    let n = c.in-Some.number in
    let number : option_and_then (repair_accepted r.seen x) (value_under c.args.original r.rx) ≡ Some n =
    sym (c.in-Some.ensures.number (streams_in r) r.seen c.args.original (streams_stand R S _ r mine) mine.seen here) in
    let none : (p : List ℕ) → OpensIn K.meaning c.self.inside.opening x n c.args.bytes.now p → Unpads x p → ⊥ = rw c.in_default-2.is at c.in_ok-opening.ensures.none in (
      r,
      takes_nothing (repair_only K.meaning r c.args.bytes.now x reads c.args.original repairs)
          (repair_sealed K.meaning r c.args.bytes.now x reads c.args.original repairs n number
          (subst (λ (s : SessionState). (p : List ℕ) → OpensIn K.meaning s.opening x n c.args.bytes.now p → Unpads x p → ⊥) mine.state none)),
      record {
        state = opening_kept _ r.state c.open.new.opening mine.state c.open.ensures.same;
        rx = mine.rx;
        known = mine.known;
        probes = mine.probes;
        seen = mine.seen;
        repairs = mine.repairs;
      },
    )

pub returns-clause-received : goal.returns-clause-received
returns-clause-received g c = λ r h reads repairs place.
    let K = g.C.SrtpCipher in
    let R = g.W.GapWindow.remembers in
    let S = g.S.ResendStore.stands_for in
    let original = c.args.original in
    let now = c.args.now in
    let mine = subst (λ s. StandsFor R S s r) (sym c.self.view_is) h in
    let here = ap (λ (v : SessionView g.row.W.Denot g.row.S.Denot). place_of original v.rx) c.self.view_is ∙ place in
    let x = c.args.header.now in
    let n = c.in-Some.number in
    let number : option_and_then (repair_accepted r.seen x) (value_under original r.rx) ≡ Some n =
    sym (c.in-Some.ensures.number (streams_in r) r.seen original (streams_stand R S _ r mine) mine.seen here) in
    let o : IsOpening K.meaning c.self.inside.opening x n true c.args.bytes.now c.in-Some-2.opening.plain c.in-Some-2.opening.original c.in-Some-2.opening.payload =
    rw c.in-Some-2.is at c.in_ok-opening.ensures.opened in
    let opens = subst (λ (s : SessionState). OpensIn K.meaning s.opening x n c.args.bytes.now o.payload) mine.state o.opens in
    let kept : StandsFor R S _ r = record {
      state = opening_kept _ r.state c.open.new.opening mine.state c.open.ensures.same;
      rx = mine.rx;
      known = mine.known;
      probes = mine.probes;
      seen = mine.seen;
      repairs = mine.repairs;
    } in
    let taken = c.in_ok-take_repair.ensures.ok r original kept here in
    let there : place_of original c.take_repair.new.self.rx ≡ Some c.args.place = ap (position (nat_eq original)) c.in_ok-take_repair.ensures.places ∙ here in
    let done = c.in_ok-restore_packet.ensures.ok (after_repair now x original n r) taken there in (
      after_repaired now x original n o.payload r,
      subst (λ l. Takes K.meaning r c.args.bytes.now now (after_repaired now x original n o.payload r) (Some (record { kind = Rtp; ssrc = x.ssrc; index = n; plain = l }))) (sym o.whole)
          (takes_repair x original n o.payload (record { reads = reads; repairs = repairs; accepts = number; opens = opens; unpads = o.unpads })),
      subst (λ l. StandsFor R S c.restore_packet.new.self (after_restoring now x original l (drop 2 (cut x o.payload)) (after_repair now x original n r))) o.number
          (subst (λ p. StandsFor R S c.restore_packet.new.self (after_restoring now x original c.in-Some-2.opening.original p (after_repair now x original n r))) o.cuts done),
    )

pub returns-in_err-opening-clause-stands : goal.returns-in_err-opening-clause-stands
returns-in_err-opening-clause-stands g c =
    let R = g.W.GapWindow.remembers in
    let S = g.S.ResendStore.stands_for in
    let front : (r : SessionRecord) → StandsFor R S c.args.self.now r → place_of c.args.original c.args.self.now.rx ≡ Some c.args.place
    → (after : SessionRecord) × StandsFor R S _ after =
    λ r h place.
    let mine = subst (λ s. StandsFor R S s r) (sym c.self.view_is) h in
    let kept : StandsFor R S _ r = record {
      state = opening_kept _ r.state c.open.new.opening mine.state c.open.ensures.same;
      rx = mine.rx;
      known = mine.known;
      probes = mine.probes;
      seen = mine.seen;
      repairs = mine.repairs;
    } in
    (r, kept) in
    on_err_any _ front

pub returns-in_err-take_repair-clause-stands : goal.returns-in_err-take_repair-clause-stands
returns-in_err-take_repair-clause-stands g c =
    let R = g.W.GapWindow.remembers in
    let S = g.S.ResendStore.stands_for in
    let front : (r : SessionRecord) → StandsFor R S c.args.self.now r → place_of c.args.original c.args.self.now.rx ≡ Some c.args.place
    → (after : SessionRecord) × StandsFor R S _ after =
    λ r h place.
    let mine = subst (λ s. StandsFor R S s r) (sym c.self.view_is) h in
    let kept : StandsFor R S _ r = record {
      state = opening_kept _ r.state c.open.new.opening mine.state c.open.ensures.same;
      rx = mine.rx;
      known = mine.known;
      probes = mine.probes;
      seen = mine.seen;
      repairs = mine.repairs;
    } in
    (r, subst (λ (v : SessionView g.row.W.Denot g.row.S.Denot). StandsFor R S v r) (sym c.in_err-take_repair.ensures.err) kept) in
    on_err_any _ front

pub returns-in_err-restore_packet-clause-stands : goal.returns-in_err-restore_packet-clause-stands
returns-in_err-restore_packet-clause-stands g c =
    let R = g.W.GapWindow.remembers in
    let S = g.S.ResendStore.stands_for in
    let front : (r : SessionRecord) → StandsFor R S c.args.self.now r → place_of c.args.original c.args.self.now.rx ≡ Some c.args.place
    → (after : SessionRecord) × StandsFor R S _ after =
    λ r h place.
    let mine = subst (λ s. StandsFor R S s r) (sym c.self.view_is) h in
    let kept : StandsFor R S _ r = record {
      state = opening_kept _ r.state c.open.new.opening mine.state c.open.ensures.same;
      rx = mine.rx;
      known = mine.known;
      probes = mine.probes;
      seen = mine.seen;
      repairs = mine.repairs;
    } in
    let original = c.args.original in
    let here = ap (λ (v : SessionView g.row.W.Denot g.row.S.Denot). place_of original v.rx) c.self.view_is ∙ place in
    let there : place_of original c.take_repair.new.self.rx ≡ Some c.args.place = ap (position (nat_eq original)) c.in_ok-take_repair.ensures.places ∙ here in
    c.in_err-restore_packet.ensures.stands (after_repair c.args.now c.args.header.now original c.in-Some.number r) (c.in_ok-take_repair.ensures.ok r original kept here) there in
    on_err_any _ front
