use Rattle.std.proofs.Common.{◌≡◌, None, Some, length, is_some, ap, sym, ◌∙◌, arith}
use Rattle.std.specs.Prelude.{◌^◌}
use Rattle.std.proofs.lemmas.Bool.{le-leb, lt-leb, lt-ltb, le-ltb}
use Rattle.stream_core.specs.Tables.{place_of}
use Rattle.media_play.specs.Knowing.{has_written}
use Rattle.media_play.specs.Ends.{EndSession}
use Rattle.media_play.specs.Sessions.{EndState}
use Rattle.media_play.proofs.Knowings.{unknown_stream, known_stream, known_type, known_used, rule_stream, rule_type, rule_number, rule_used, rule_long, rule_sources, rule_none}
use Rattle.media_play.proofs.end.End.check_write.Goals as goal

pub returns-in_default-clause-rule : goal.returns-in_default-clause-rule
returns-in_default-clause-rule g c setup side a entries h =
    let w = c.args.write.now in
    let place : place_of w.ssrc c.args.self.now.session.state.tx ≡ None =
    ap (λ (e : EndState). place_of w.ssrc e.session.state.tx) (sym c.self.view_is) ∙ ap (λ (v : EndSession). place_of w.ssrc v.state.tx) (sym c.deref_mut.ensures.value) ∙ sym (ap (place_of w.ssrc) c.streams.ensures.tx) ∙ sym c.tx_place.ensures.place ∙ c.in_default.is in
    rule_stream setup entries side w (unknown_stream h w.ssrc place)

pub returns-then-not-has-clause-rule : goal.returns-then-not-has-clause-rule
returns-then-not-has-clause-rule g c setup side a entries h =
    let w = c.args.write.now in
    let place : place_of w.ssrc c.args.self.now.session.state.tx ≡ Some c.in-Some.place =
    ap (λ (e : EndState). place_of w.ssrc e.session.state.tx) (sym c.self.view_is) ∙ ap (λ (v : EndSession). place_of w.ssrc v.state.tx) (sym c.deref_mut.ensures.value) ∙ sym (ap (place_of w.ssrc) c.streams.ensures.tx) ∙ sym c.tx_place.ensures.place ∙ c.in-Some.is in
    let type = sym (known_type h w.pt) ∙ ap (λ (e : EndState). is_some (place_of w.pt e.session.state.types)) (sym c.self.view_is)
    ∙ sym (c.has.ensures ∙ ap (λ t. is_some (place_of w.pt t)) c.payload_types.ensures ∙ ap (λ (v : EndSession). is_some (place_of w.pt v.state.types)) c.deref.ensures ∙ ap (λ (v : EndSession). is_some (place_of w.pt v.state.types)) c.deref_mut.ensures.value) ∙ c.if-not-has.true in
    rule_type setup entries side w (known_stream h w.ssrc c.in-Some.place place) type

pub returns-then-from-ge-NUMBER_LIMIT-clause-rule : goal.returns-then-from-ge-NUMBER_LIMIT-clause-rule
returns-then-from-ge-NUMBER_LIMIT-clause-rule g c setup side a entries h =
    let w = c.args.write.now in
    let place : place_of w.ssrc c.args.self.now.session.state.tx ≡ Some c.in-Some.place =
    ap (λ (e : EndState). place_of w.ssrc e.session.state.tx) (sym c.self.view_is) ∙ ap (λ (v : EndSession). place_of w.ssrc v.state.tx) (sym c.deref_mut.ensures.value) ∙ sym (ap (place_of w.ssrc) c.streams.ensures.tx) ∙ sym c.tx_place.ensures.place ∙ c.in-Some.is in
    let type = sym (known_type h w.pt) ∙ ap (λ (e : EndState). is_some (place_of w.pt e.session.state.types)) (sym c.self.view_is)
    ∙ sym (c.has.ensures ∙ ap (λ t. is_some (place_of w.pt t)) c.payload_types.ensures ∙ ap (λ (v : EndSession). is_some (place_of w.pt v.state.types)) c.deref.ensures ∙ ap (λ (v : EndSession). is_some (place_of w.pt v.state.types)) c.deref_mut.ensures.value) ∙ c.if-not-has.false in
    rule_number setup entries side w (known_stream h w.ssrc c.in-Some.place place) type (le-leb (2 ^ 48) w.number (omega (arith, c.from.ensures, c.if-from-ge-NUMBER_LIMIT.true)))

pub returns-then-has_written-clause-rule : goal.returns-then-has_written-clause-rule
returns-then-has_written-clause-rule g c setup side a entries h =
    let w = c.args.write.now in
    let at = c.in-Some.place in
    let place : place_of w.ssrc c.args.self.now.session.state.tx ≡ Some at =
    ap (λ (e : EndState). place_of w.ssrc e.session.state.tx) (sym c.self.view_is) ∙ ap (λ (v : EndSession). place_of w.ssrc v.state.tx) (sym c.deref_mut.ensures.value) ∙ sym (ap (place_of w.ssrc) c.streams.ensures.tx) ∙ sym c.tx_place.ensures.place ∙ c.in-Some.is in
    let type = sym (known_type h w.pt) ∙ ap (λ (e : EndState). is_some (place_of w.pt e.session.state.types)) (sym c.self.view_is)
    ∙ sym (c.has.ensures ∙ ap (λ t. is_some (place_of w.pt t)) c.payload_types.ensures ∙ ap (λ (v : EndSession). is_some (place_of w.pt v.state.types)) c.deref.ensures ∙ ap (λ (v : EndSession). is_some (place_of w.pt v.state.types)) c.deref_mut.ensures.value) ∙ c.if-not-has.false in
    let used = sym (known_used h w.ssrc at w.number place) ∙ ap (λ (e : EndState). has_written e.written at w.number) (sym c.self.view_is) ∙ sym c.has_written.ensures ∙ c.if-has_written.true in
    rule_used setup entries side w (known_stream h w.ssrc at place) type (lt-leb (2 ^ 48) w.number (omega (arith, c.from.ensures, c.if-from-ge-NUMBER_LIMIT.false))) used

pub returns-then-len-gt-MAX_PAYLOAD_LEN-clause-rule : goal.returns-then-len-gt-MAX_PAYLOAD_LEN-clause-rule
returns-then-len-gt-MAX_PAYLOAD_LEN-clause-rule g c setup side a entries h =
    let w = c.args.write.now in
    let at = c.in-Some.place in
    let place : place_of w.ssrc c.args.self.now.session.state.tx ≡ Some at =
    ap (λ (e : EndState). place_of w.ssrc e.session.state.tx) (sym c.self.view_is) ∙ ap (λ (v : EndSession). place_of w.ssrc v.state.tx) (sym c.deref_mut.ensures.value) ∙ sym (ap (place_of w.ssrc) c.streams.ensures.tx) ∙ sym c.tx_place.ensures.place ∙ c.in-Some.is in
    let type = sym (known_type h w.pt) ∙ ap (λ (e : EndState). is_some (place_of w.pt e.session.state.types)) (sym c.self.view_is)
    ∙ sym (c.has.ensures ∙ ap (λ t. is_some (place_of w.pt t)) c.payload_types.ensures ∙ ap (λ (v : EndSession). is_some (place_of w.pt v.state.types)) c.deref.ensures ∙ ap (λ (v : EndSession). is_some (place_of w.pt v.state.types)) c.deref_mut.ensures.value) ∙ c.if-not-has.false in
    let used = sym (known_used h w.ssrc at w.number place) ∙ ap (λ (e : EndState). has_written e.written at w.number) (sym c.self.view_is) ∙ sym c.has_written.ensures ∙ c.if-has_written.false in
    rule_long setup entries side w (known_stream h w.ssrc at place) type (lt-leb (2 ^ 48) w.number (omega (arith, c.from.ensures, c.if-from-ge-NUMBER_LIMIT.false))) used
    (lt-ltb 1400 (length w.payload) (omega (arith, c.len.ensures, c.if-len-gt-MAX_PAYLOAD_LEN.true)))

pub returns-then-as_slice-gt-MAX_SOURCES-clause-rule : goal.returns-then-as_slice-gt-MAX_SOURCES-clause-rule
returns-then-as_slice-gt-MAX_SOURCES-clause-rule g c setup side a entries h =
    let w = c.args.write.now in
    let at = c.in-Some.place in
    let place : place_of w.ssrc c.args.self.now.session.state.tx ≡ Some at =
    ap (λ (e : EndState). place_of w.ssrc e.session.state.tx) (sym c.self.view_is) ∙ ap (λ (v : EndSession). place_of w.ssrc v.state.tx) (sym c.deref_mut.ensures.value) ∙ sym (ap (place_of w.ssrc) c.streams.ensures.tx) ∙ sym c.tx_place.ensures.place ∙ c.in-Some.is in
    let type = sym (known_type h w.pt) ∙ ap (λ (e : EndState). is_some (place_of w.pt e.session.state.types)) (sym c.self.view_is)
    ∙ sym (c.has.ensures ∙ ap (λ t. is_some (place_of w.pt t)) c.payload_types.ensures ∙ ap (λ (v : EndSession). is_some (place_of w.pt v.state.types)) c.deref.ensures ∙ ap (λ (v : EndSession). is_some (place_of w.pt v.state.types)) c.deref_mut.ensures.value) ∙ c.if-not-has.false in
    let used = sym (known_used h w.ssrc at w.number place) ∙ ap (λ (e : EndState). has_written e.written at w.number) (sym c.self.view_is) ∙ sym c.has_written.ensures ∙ c.if-has_written.false in
    rule_sources setup entries side w (known_stream h w.ssrc at place) type (lt-leb (2 ^ 48) w.number (omega (arith, c.from.ensures, c.if-from-ge-NUMBER_LIMIT.false))) used
    (le-ltb 1400 (length w.payload) (omega (arith, c.len.ensures, c.if-len-gt-MAX_PAYLOAD_LEN.false)))
    (lt-ltb 15 (length w.csrc) (omega (arith, ap length c.as_slice.ensures, c.if-as_slice-gt-MAX_SOURCES.true)))

pub returns-clause-rule : goal.returns-clause-rule
returns-clause-rule g c setup side a entries h =
    let w = c.args.write.now in
    let at = c.in-Some.place in
    let place : place_of w.ssrc c.args.self.now.session.state.tx ≡ Some at =
    ap (λ (e : EndState). place_of w.ssrc e.session.state.tx) (sym c.self.view_is) ∙ ap (λ (v : EndSession). place_of w.ssrc v.state.tx) (sym c.deref_mut.ensures.value) ∙ sym (ap (place_of w.ssrc) c.streams.ensures.tx) ∙ sym c.tx_place.ensures.place ∙ c.in-Some.is in
    let type = sym (known_type h w.pt) ∙ ap (λ (e : EndState). is_some (place_of w.pt e.session.state.types)) (sym c.self.view_is)
    ∙ sym (c.has.ensures ∙ ap (λ t. is_some (place_of w.pt t)) c.payload_types.ensures ∙ ap (λ (v : EndSession). is_some (place_of w.pt v.state.types)) c.deref.ensures ∙ ap (λ (v : EndSession). is_some (place_of w.pt v.state.types)) c.deref_mut.ensures.value) ∙ c.if-not-has.false in
    let used = sym (known_used h w.ssrc at w.number place) ∙ ap (λ (e : EndState). has_written e.written at w.number) (sym c.self.view_is) ∙ sym c.has_written.ensures ∙ c.if-has_written.false in
    rule_none setup entries side w (known_stream h w.ssrc at place) type (lt-leb (2 ^ 48) w.number (omega (arith, c.from.ensures, c.if-from-ge-NUMBER_LIMIT.false))) used
    (le-ltb 1400 (length w.payload) (omega (arith, c.len.ensures, c.if-len-gt-MAX_PAYLOAD_LEN.false)))
    (le-ltb 15 (length w.csrc) (omega (arith, ap length c.as_slice.ensures, c.if-as_slice-gt-MAX_SOURCES.false)))
