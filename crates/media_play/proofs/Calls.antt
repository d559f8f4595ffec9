-- What a session sends for the call of an application, and what its end knows then.
use Rattle.std.proofs.Common.{◌≡◌, ℕ, ◌+◌, ◌≤◌, ◌^◌, Bool, true, false, List, [], ◌∷◌, ◌++◌, length, sym, ap, ◌∙◌, arith}
use Rattle.std.specs.Prelude.{◌==◌, ◌&&◌, ◌%◌, if◌then◌else◌}
use Rattle.std.proofs.lemmas.Bool.{eqb-true, false_from_ne_true}
use Rattle.rtcp_wire.specs.declared.feedback.AppSpecificFeedback.{AppSpecificFeedback as Application}
use Rattle.rtcp_wire.specs.declared.packet.Rtcp.{Rtcp as RtcpItem}
use Rattle.rtcp_wire.specs.declared.packet.Rtcp.TheVariants.{AppSpecificFeedback}
use Rattle.rtcp_wire.specs.Feedback.{app_feedback_body}
use Rattle.rtcp_wire.specs.Laws.{ItemsFitByLengths}
use Rattle.rtcp_wire.specs.Texts.{text_of}
use Rattle.srtp_core.specs.Cipher.{CipherMeaning}
use Rattle.srtp_core.specs.declared.counter.Counter.{Counter}
use Rattle.session_core.specs.Calls.{with_feedback}
use Rattle.session_core.specs.Draining.{PollFails, packet, key_used_up, compound_kept, compound_lost}
use Rattle.session_core.specs.Feedback.{FitsAlone, is_used_up, due_of, some_due, exhausts}
use Rattle.session_core.specs.SessionRecord.{SessionState, SessionRecord}
use Rattle.session_core.specs.declared.error.RtcError.{RtcError}
use Rattle.session_core.specs.declared.error.RtcError.TheVariants.{KeyExhausted}
use Rattle.media_model.specs.declared.entry.Side.{Side}
use Rattle.media_model.specs.declared.entry.Entry.{Entry}
use Rattle.media_model.specs.declared.setup.Setup.{Setup}
use Rattle.run_model.specs.Whole.{Session}
use Rattle.media_laws.specs.Feedback.{next_index}
use Rattle.media_play.specs.Ends.{EndSession, SessionStands}
use Rattle.media_play.specs.Sessions.{EndState, ReadyAt}

-- feedback of an application fits a compound under each target from 900 on

application_length : (f : Application) → length (text_of (AppSpecificFeedback f)) ≡ 12 + length f.payload
unfolding text_of app_feedback_body
application_length f = omega arith

pub application_fits : (f : Application) → ItemsFitByLengths → length f.payload % 4 ≡ 0 → length f.payload ≤ 800 → FitsAlone (AppSpecificFeedback f)
application_fits f fits whole few =
    let long = application_length f in
    record {
      writable = fits (AppSpecificFeedback f) (whole, omega arith);
      long = omega (arith, long);
      few = omega (arith, long, few);
    }

module _ {cipher : CipherMeaning} {setup : Setup} {side : Side} {end : EndState} {a : Session} {entries : List Entry} {time : ℕ} (at : ReadyAt cipher setup side end a entries time)
    (f : Application) where
  abbrev item : RtcpItem
  item = AppSpecificFeedback f

  abbrev calling : SessionState
  calling = with_feedback item at.ready.session.state

  -- the session that the feedback waits in
  abbrev pub calling_record : SessionRecord
  calling_record = record at.ready.session { state = calling }

  not_zero : (time == 0) ≡ false
  not_zero =
      let some = at.some in
      false_from_ne_true _ (λ e. let zero_is = eqb-true time 0 e in absurd (omega (arith, zero_is, some)))

  due : due_of time calling ≡ item ∷ []
  due = ap (λ (t : Bool). if t then [] else calling.feedback) not_zero ∙ ap (λ (l : List RtcpItem). l ++ item ∷ []) at.ready.mirrors.feedback

  used_up : exhausts time calling ≡ (at.ready.mirrors.own.srtcp_index == 2 ^ 31)
  used_up = (λ i. some_due (due i) && is_used_up (at.ready.mirrors.seals i))

  -- no index is left
  none_left : exhausts time calling ≡ true → a.rtcp ≡ next_index setup side entries → next_index setup side entries ≡ 2 ^ 31
  none_left e counts = sym counts ∙ sym at.ready.mirrors.index ∙ eqb-true at.ready.mirrors.own.srtcp_index (2 ^ 31) (sym used_up ∙ e)

  pub fails_used_up : (after : SessionRecord) (e : RtcError) (counter : Counter) → e ≡ KeyExhausted counter → PollFails time calling_record after e
      → a.rtcp ≡ next_index setup side entries → next_index setup side entries ≡ 2 ^ 31
  fails_used_up _ _ counter is (packet after e spoken none fails) counts = let not : item ∷ [] ≡ [] = sym due ∙ none in absurd cc
  fails_used_up _ _ counter is (key_used_up e) counts = none_left e counts
  fails_used_up _ _ counter is (compound_kept some fresh) counts = absurd cc
  fails_used_up _ _ counter is (compound_lost some fresh) counts = absurd cc

  -- it stands for that record
  pub calling_stands : (between inside : EndSession) → between ≡ record inside { state = with_feedback item inside.state } → inside ≡ end.session
      → SessionStands between calling_record
  calling_stands between inside is view =
      let whole : between ≡ record end.session { state = with_feedback item end.session.state } =
      is ∙ ap {A = EndSession} {B = EndSession} (λ v. record v { state = with_feedback item v.state }) view in
      let stands = at.ready.stands in
      record {
        state = ap (λ (v : EndSession). v.state) whole ∙ ap (with_feedback item) stands.state;
        rx = rw whole stands.rx;
        known = rw whole stands.known;
        probes = rw whole stands.probes;
        seen = rw whole stands.seen;
        repairs = rw whole stands.repairs;
      }
