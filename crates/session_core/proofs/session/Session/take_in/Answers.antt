use Rattle.std.proofs.Common.{◌≡◌, ◌<◌, ℕ, true, false, Option, Some, None, Ok, Err, is_none, is_some, drop, length, nat_eq, position, refl, sym, ap, subst, ◌∙◌}
use Rattle.std.specs.Prelude.{◌==◌, Result, OnOk, IfSome}
use Rattle.std.specs.Map.{keys_of}
use Rattle.std.specs.Option.{option_map}
use Rattle.stream_core.specs.Tables.{place_of}
use Rattle.session_core.specs.Receiving.{cut, after_repair, after_restoring, after_repaired}
use Rattle.session_core.specs.Repairs.{repaired_by}
use Rattle.session_core.specs.SessionRecord.{streams_in, SessionRecord, SessionState, SessionView, StandsFor}
use Rattle.session_core.proofs.StreamsIn.{streams_stand}
use Rattle.session_core.proofs.Tables.{length_keys}
use Rattle.session_core.proofs.Failing.{on_err_any, on_err_map}
use Rattle.session_core.proofs.session.Session.take_in.Goals as goal

on_ok_map : {X E : Type 0} (o : Result X E) (P Q : Type 0) → (P → Q) → OnOk o P → OnOk o Q
on_ok_map (Ok x) P Q f p = f p
on_ok_map (Err e) P Q f p = tt

-- a stream is repaired, or none is, and by one datagram no two are
some_none : (o : Option ℕ) (n : ℕ) → o ≡ Some n → o ≡ None → ⊥
some_none o n e f = cc

same_one : (o : Option ℕ) (n m : ℕ) → o ≡ Some n → o ≡ Some m → n ≡ m
same_one o n m e f = cc

-- an SSRC of a stream has its place
not_none : (o : Option ℕ) → is_some o ≡ true → is_none o ≡ false
not_none None e = absurd cc
not_none (Some i) e = refl

if_place : (o p : Option ℕ) → o ≡ p → IfSome o (λ i. p ≡ Some i)
if_place None p e = tt
if_place (Some i) p e = sym e

pub restore_packet-requires : goal.restore_packet-requires
restore_packet-requires g c =
    let keys : length (keys_of c.take_repair.new.self.rx) ≡ length (keys_of c.args.self.now.rx) = ap length c.in_ok-take_repair-in-Some.ensures.places in
    let view : length c.self.inside.streams.rx ≡ length c.args.self.now.rx = ap (λ (v : SessionView g.row.W.Denot g.row.S.Denot). length v.rx) c.self.view_is in
    let same : length c.self.inside.streams.rx ≡ length c.take_repair.new.self.rx =
    view ∙ sym (length_keys c.args.self.now.rx) ∙ sym keys ∙ length_keys c.take_repair.new.self.rx in
    subst (λ (n : ℕ). c.in-Some.found.1 < n) same c.in-Some.ensures.within

pub returns-in_ok-take_repair-in-Some-clause-packet : goal.returns-in_ok-take_repair-in-Some-clause-packet
returns-in_ok-take_repair-in-Some-clause-packet g c =
    let R = g.W.GapWindow.remembers in
    let S = g.S.ResendStore.stands_for in
    let x = c.args.header.now in
    on_ok_map c.restore_packet.result _ _ (λ done r p h plain nonzero placed cuts.
    let mine = subst (λ s. StandsFor R S s r) (sym c.self.view_is) h in
    let found : repaired_by r.state.types r.rx r.known.originals x ≡ Some c.in-Some.found.0 =
    ap (λ (s : SessionState). repaired_by s.types r.rx r.known.originals x) (sym mine.state)
    ∙ sym (c.repaired_by.ensures.original (streams_in r) (streams_stand R S _ r mine)) ∙ ap (option_map (λ f. f.0)) c.in-Some.is in
    absurd (some_none (repaired_by r.state.types r.rx r.known.originals x) c.in-Some.found.0 found plain)) c.restore_packet.ensures.ok

pub returns-in_ok-take_repair-in-Some-clause-repair : goal.returns-in_ok-take_repair-in-Some-clause-repair
returns-in_ok-take_repair-in-Some-clause-repair g c =
    let R = g.W.GapWindow.remembers in
    let S = g.S.ResendStore.stands_for in
    let x = c.args.header.now in
    let main = c.in-Some.found.0 in
    let place = c.in-Some.found.1 in
    let now = c.args.now in
    let n = c.args.number in
    on_ok_map c.restore_packet.result _ _ (λ done r p original h repairs low cuts.
    let mine = subst (λ s. StandsFor R S s r) (sym c.self.view_is) h in
    let found : repaired_by r.state.types r.rx r.known.originals x ≡ Some main =
    ap (λ (s : SessionState). repaired_by s.types r.rx r.known.originals x) (sym mine.state)
    ∙ sym (c.repaired_by.ensures.original (streams_in r) (streams_stand R S _ r mine)) ∙ ap (option_map (λ f. f.0)) c.in-Some.is in
    let same : main ≡ original = same_one (repaired_by r.state.types r.rx r.known.originals x) main original found repairs in
    let there : place_of main c.args.self.now.rx ≡ Some place =
    ap (λ (v : SessionView g.row.W.Denot g.row.S.Denot). place_of main v.rx) (sym c.self.view_is) ∙ c.in-Some.ensures.place in
    let taken = c.in_ok-take_repair-in-Some.ensures.ok r main h there in
    let still : place_of main c.take_repair.new.self.rx ≡ Some place = ap (position (nat_eq main)) c.in_ok-take_repair-in-Some.ensures.places ∙ there in
    let restored = done (after_repair now x main n r) taken still in
    subst (λ (k : ℕ). StandsFor R S c.restore_packet.new.self (after_repaired now x k n p r)) same
    (subst (λ l. StandsFor R S c.restore_packet.new.self (after_restoring now x main l (drop 2 (cut x p)) (after_repair now x main n r))) low
    (subst (λ q. StandsFor R S c.restore_packet.new.self (after_restoring now x main c.args.low q (after_repair now x main n r))) cuts restored))) c.restore_packet.ensures.ok

pub returns-in-None-clause-packet : goal.returns-in-None-clause-packet
returns-in-None-clause-packet g c =
    let R = g.W.GapWindow.remembers in
    let S = g.S.ResendStore.stands_for in
    let x = c.args.header.now in
    on_ok_map c.take_packet.result _ _ (λ done r p h plain nonzero placed cuts.
    let mine = subst (λ s. StandsFor R S s r) (sym c.self.view_is) h in
    let stands : c.rx_place-place.result ≡ place_of x.ssrc r.rx = c.rx_place-place.ensures.stands (streams_in r) (streams_stand R S _ r mine) in
    let none : is_none c.rx_place-place.result ≡ (x.ssrc == 0) = not_none c.rx_place-place.result (ap is_some stands ∙ placed) ∙ sym nonzero in
    let here : c.rx_place-place.result ≡ place_of x.ssrc c.args.self.now.rx =
    c.rx_place-place.ensures.place ∙ ap (λ (v : SessionView g.row.W.Denot g.row.S.Denot). place_of x.ssrc v.rx) c.self.view_is in
    done r p h (c.get-remembered.ensures.value r.seen mine.seen) none (if_place c.rx_place-place.result (place_of x.ssrc c.args.self.now.rx) here) cuts) c.take_packet.ensures.ok

pub returns-in-None-clause-repair : goal.returns-in-None-clause-repair
returns-in-None-clause-repair g c =
    let R = g.W.GapWindow.remembers in
    let S = g.S.ResendStore.stands_for in
    let x = c.args.header.now in
    on_ok_map c.take_packet.result _ _ (λ done r p original h repairs low cuts.
    let mine = subst (λ s. StandsFor R S s r) (sym c.self.view_is) h in
    let found : repaired_by r.state.types r.rx r.known.originals x ≡ None =
    ap (λ (s : SessionState). repaired_by s.types r.rx r.known.originals x) (sym mine.state)
    ∙ sym (c.repaired_by.ensures.original (streams_in r) (streams_stand R S _ r mine)) ∙ ap (option_map (λ f. f.0)) c.in-None.is in
    absurd (some_none (repaired_by r.state.types r.rx r.known.originals x) original repairs found)) c.take_packet.ensures.ok

pub returns-in_err-take_repair-in-Some-clause-stands : goal.returns-in_err-take_repair-in-Some-clause-stands
returns-in_err-take_repair-in-Some-clause-stands g c =
    let R = g.W.GapWindow.remembers in
    let S = g.S.ResendStore.stands_for in
    let front : (r : SessionRecord) → StandsFor R S c.args.self.now r → (c.args.header.now.ssrc == 0) ≡ false
    → (repaired_by r.state.types r.rx r.known.originals c.args.header.now ≡ None → is_some (place_of c.args.header.now.ssrc r.rx) ≡ true)
    → (after : SessionRecord) × StandsFor R S _ after =
    λ r h nonzero placed. (r, subst (λ (v : SessionView g.row.W.Denot g.row.S.Denot). StandsFor R S v r) (sym c.in_err-take_repair-in-Some.ensures.err) h) in
    on_err_any _ front

pub returns-in_ok-take_repair-in-Some-clause-stands : goal.returns-in_ok-take_repair-in-Some-clause-stands
returns-in_ok-take_repair-in-Some-clause-stands g c =
    let R = g.W.GapWindow.remembers in
    let S = g.S.ResendStore.stands_for in
    let x = c.args.header.now in
    let main = c.in-Some.found.0 in
    let there : place_of main c.args.self.now.rx ≡ Some c.in-Some.found.1 =
    ap (λ (v : SessionView g.row.W.Denot g.row.S.Denot). place_of main v.rx) (sym c.self.view_is) ∙ c.in-Some.ensures.place in
    let still : place_of main c.take_repair.new.self.rx ≡ Some c.in-Some.found.1 = ap (position (nat_eq main)) c.in_ok-take_repair-in-Some.ensures.places ∙ there in
    on_err_map c.restore_packet.result _ _ (λ stands r h nonzero placed.
    stands (after_repair c.args.now x main c.args.number r) (c.in_ok-take_repair-in-Some.ensures.ok r main h there) still) c.restore_packet.ensures.stands

pub returns-in-None-clause-stands : goal.returns-in-None-clause-stands
returns-in-None-clause-stands g c =
    let R = g.W.GapWindow.remembers in
    let S = g.S.ResendStore.stands_for in
    let x = c.args.header.now in
    on_err_map c.take_packet.result _ _ (λ stands r h nonzero placed.
    let mine = subst (λ s. StandsFor R S s r) (sym c.self.view_is) h in
    let found : repaired_by r.state.types r.rx r.known.originals x ≡ None =
    ap (λ (s : SessionState). repaired_by s.types r.rx r.known.originals x) (sym mine.state)
    ∙ sym (c.repaired_by.ensures.original (streams_in r) (streams_stand R S _ r mine)) ∙ ap (option_map (λ f. f.0)) c.in-None.is in
    let place : c.rx_place-place.result ≡ place_of x.ssrc r.rx = c.rx_place-place.ensures.stands (streams_in r) (streams_stand R S _ r mine) in
    let none : is_none c.rx_place-place.result ≡ (x.ssrc == 0) = not_none c.rx_place-place.result (ap is_some place ∙ placed found) ∙ sym nonzero in
    let here : c.rx_place-place.result ≡ place_of x.ssrc c.args.self.now.rx =
    c.rx_place-place.ensures.place ∙ ap (λ (v : SessionView g.row.W.Denot g.row.S.Denot). place_of x.ssrc v.rx) c.self.view_is in
    stands r h none (if_place c.rx_place-place.result (place_of x.ssrc c.args.self.now.rx) here)) c.take_packet.ensures.stands
