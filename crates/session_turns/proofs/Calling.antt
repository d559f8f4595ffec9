-- Feedback that an application sends is a turn.
use Rattle.std.proofs.Common.{◌≡◌, ℕ, zero, suc, ◌+◌, ◌-◌, ◌/◌, ◌%◌, ◌<◌, ◌≤◌, ◌^◌, Bool, true, false, map, List, [], ◌∷◌, ◌++◌, length, take, drop, Option, Some, None, refl, sym, ap, ◌∙◌, subst, arith}
use Rattle.std.specs.Prelude.{◌==◌, ◌&&◌, nat_le, if◌then◌else◌}
use Rattle.std.specs.List.{flat_map, list_all}
use Rattle.std.specs.Option.{option_map, option_map_or}
use Rattle.std.proofs.lemmas.Bool.{eqb-true, eqb-false, false_from_ne_true}
use Rattle.std.proofs.lemmas.Bool.Decides.{nat_tests}
use Rattle.std.proofs.lemmas.List.{append-nil}
use Rattle.std.proofs.lemmas.Option.{same_Some}
use Rattle.rtcp_wire.specs.declared.feedback.AppSpecificFeedback.{AppSpecificFeedback as Application}
use Rattle.rtcp_wire.specs.declared.packet.Rtcp.{Rtcp as RtcpItem}
use Rattle.rtcp_wire.specs.declared.packet.Rtcp.TheVariants.{AppSpecificFeedback, Remb}
use Rattle.rtcp_wire.specs.declared.remb.Remb.{Remb as RembItem}
use Rattle.rtcp_wire.specs.declared.rtcp_fb.RtcpFb.{RtcpFb}
use Rattle.rtcp_wire.specs.declared.rtcp_fb.RtcpFb.TheVariants as fb
use Rattle.rtcp_wire.specs.Feedback.{app_feedback_of}
use Rattle.rtcp_wire.specs.Frame.{frame_at}
use Rattle.rtcp_wire.specs.Items.{item_or_short, payload_feedback_of, application_of, reading_of, with_rest, first_of, item_at, items_within, items_of}
use Rattle.rtcp_wire.specs.Laws.{FramesReadBack}
use Rattle.rtcp_wire.specs.Remb.{is_remb, remb_of}
use Rattle.rtcp_wire.specs.Streams.{feedback_of}
use Rattle.rtcp_wire.specs.Texts.{IsWritable, framed, body_of, text_of, fitting}
use Rattle.srtp_core.specs.Cipher.{CipherMeaning}
use Rattle.session_core.specs.declared.datagram.Datagram.{Datagram}
use Rattle.session_core.specs.Calls.{with_feedback}
use Rattle.session_core.specs.Feedback.{FitsAlone, room_of, leaving, compound_of, items_after, sealed_compound, counted, is_used_up, due_of, some_due, exhausts}
use Rattle.session_core.specs.Hearing.{feedback_in}
use Rattle.session_core.specs.Sending.{NextDatagram, silent, packet as leaves, compound}
use Rattle.session_core.specs.SessionRecord.{SessionState, SessionRecord}
use Rattle.media_model.specs.declared.entry.Side.{Side}
use Rattle.run_model.specs.Events.{Event, called, sealed_items}
use Rattle.run_model.specs.Asking.{is_other}
use Rattle.run_model.specs.Whole.{Config, Session, calls}
use Rattle.session_turns.specs.Laws.{TurnsTo, CallsTurn}
use Rattle.session_turns.specs.Mirrors.{TxMirrors, Mirrors}
use Rattle.session_turns.specs.Reading.{event_of}
use Rattle.session_turns.proofs.Keys.{zip_weaker}
use Rattle.session_turns.proofs.Later.{tx_later, rx_still}

-- feedback of an application names no missing packet

abbrev are_others : List RtcpItem → Bool
are_others xs = list_all is_other (flat_map feedback_of xs)

nothing_behind : (n : ℕ) → items_within n [] ≡ []
unfolding item_at
nothing_behind zero = refl
nothing_behind (suc n) = refl

rembs_are_others : (rate : ℕ) (ssrcs : List ℕ) → list_all is_other (map (λ ssrc. fb.Remb ssrc rate) ssrcs ++ []) ≡ true
rembs_are_others rate [] = refl
rembs_are_others rate (s ∷ ssrcs) = rembs_are_others rate ssrcs

-- what is read at the front and behind it
abbrev read_with : ℕ → Option (List RtcpItem × List ℕ) → List RtcpItem
read_with n o = option_map_or (λ x. x.0 ++ items_within n x.1) o []

remb_or_none : (n : ℕ) (o : Option RembItem) → are_others (read_with n (with_rest [] (item_or_short Remb o))) ≡ true
remb_or_none n None = refl
remb_or_none n (Some r) = ap (λ (xs : List RtcpItem). are_others (Remb r ∷ xs)) (nothing_behind n) ∙ rembs_are_others r.bitrate r.ssrcs

application_or_none : (n : ℕ) (o : Option Application) → are_others (read_with n (with_rest [] (item_or_short AppSpecificFeedback o))) ≡ true
application_or_none n None = refl
application_or_none n (Some f) = ap (λ (xs : List RtcpItem). are_others (AppSpecificFeedback f ∷ xs)) (nothing_behind n)

either : (n : ℕ) (body : List ℕ) (b : Bool) → are_others (read_with n (with_rest [] (application_of b body))) ≡ true
either n body true = remb_or_none n (remb_of body)
either n body false = application_or_none n (app_feedback_of body)

read_as : (body : List ℕ) → reading_of 206 15 body ≡ application_of (is_remb body) body
unfolding reading_of payload_feedback_of
read_as body = refl

framed_at : FramesReadBack → (body : List ℕ) → length body % 4 ≡ 0 → length body < 2 ^ 18 → item_at (framed 15 206 body) ≡ with_rest [] (application_of (is_remb body) body)
unfolding item_at
framed_at frames body whole size =
    ap first_of (sym (ap frame_at (append-nil (framed 15 206 body))) ∙ frames 15 206 body [] (omega arith) whole size) ∙ ap (with_rest []) (read_as body)

items_are : (bytes : List ℕ) → items_of bytes ≡ items_within (length bytes / 4) bytes
unfolding items_of
items_are bytes = refl

framed_others : FramesReadBack → (body : List ℕ) → length body % 4 ≡ 0 → length body < 2 ^ 18 → are_others (items_of (framed 15 206 body)) ≡ true
framed_others frames body whole size =
    let count : length (framed 15 206 body) / 4 ≡ suc (length body / 4) = omega arith in
    ap are_others (items_are (framed 15 206 body) ∙ ap (λ (n : ℕ). items_within n (framed 15 206 body)) count)
    ∙ ap (λ (o : Option (List RtcpItem × List ℕ)). are_others (read_with (length body / 4) o)) (framed_at frames body whole size)
    ∙ either (length body / 4) body (is_remb body)

text_is : (f : Application) → text_of (AppSpecificFeedback f) ≡ framed 15 206 (body_of (AppSpecificFeedback f))
unfolding text_of
text_is f = refl

feedback_is_other : FramesReadBack → (f : Application) → IsWritable (AppSpecificFeedback f) → list_all is_other (feedback_in (text_of (AppSpecificFeedback f))) ≡ true
feedback_is_other frames f w =
    ap (λ (bytes : List ℕ). are_others (items_of bytes)) (text_is f) ∙ framed_others frames (body_of (AppSpecificFeedback f)) w.whole w.size

-- it fits a compound under each target from 900 on

le_true : (a b : ℕ) → a ≤ b → nat_le a b ≡ true
le_true a b h = grind (arith, nat_tests)

wide_room : (target : ℕ) → 900 ≤ target → 880 ≤ room_of target
wide_room target h = omega arith

alone : (target : ℕ) (x : RtcpItem) → 900 ≤ target → length (text_of x) ≤ 880 → leaving target (x ∷ []) ≡ 1
alone target x wide few =
    let room = wide_room target wide in
    ap (λ (b : Bool). if b then suc (fitting (room_of target - length (text_of x)) []) else 0) (le_true (length (text_of x)) (room_of target) (omega (arith, room, few)))

module _ (frames : FramesReadBack) (cipher : CipherMeaning) (C : Config) (side : Side) (r : SessionRecord) (a : Session) (time : ℕ) (f : Application) (h : Mirrors cipher C side r a)
    (le : a.rx.now ≤ time) (later : 0 < time) (fits : FitsAlone (AppSpecificFeedback f)) where
  abbrev item : RtcpItem
  item = AppSpecificFeedback f

  abbrev text : List ℕ
  text = text_of item

  -- the feedback waits, and nothing else
  abbrev calling : SessionState
  calling = with_feedback item r.state

  not_zero : (time == 0) ≡ false
  not_zero = false_from_ne_true _ (λ e. let zero_is = eqb-true time 0 e in absurd (omega (arith, zero_is, later)))

  waits : calling.feedback ≡ item ∷ []
  waits = ap (λ (l : List RtcpItem). l ++ item ∷ []) h.feedback

  due : due_of time calling ≡ item ∷ []
  due = ap (λ (t : Bool). if t then [] else calling.feedback) not_zero ∙ waits

  leaves_alone : leaving calling.target calling.feedback ≡ 1
  leaves_alone = ap (leaving calling.target) waits ∙ alone calling.target item h.target fits.few

  plain_is : compound_of calling.target calling.feedback ≡ text
  plain_is = (λ i. flat_map text_of (take (leaves_alone i) (waits i))) ∙ append-nil text

  none_waits : items_after calling.target calling.feedback ≡ []
  none_waits = λ i. drop (leaves_alone i) (waits i)

  -- and the session after it
  abbrev left : SessionRecord
  left = record r { state = record r.state { feedback = []; sealing = Some (counted h.own) } }

  used_up : exhausts time calling ≡ (h.own.srtcp_index == 2 ^ 31)
  used_up = (λ i. some_due (due i) && is_used_up (h.seals i))

  some_left : exhausts time calling ≡ false → a.rtcp + 1 ≤ 2 ^ 31
  some_left e =
      let other = eqb-false h.own.srtcp_index (2 ^ 31) (sym used_up ∙ e) in
      let most = h.bounded in
      let index = h.index in
      grind (arith, other, most, index)

  -- what leaves then, and what it leaves
  record IsCalled (after : SessionRecord) (d : Datagram) : Type 0 where
    fresh : exhausts time calling ≡ false
    sealed : d ≡ sealed_compound cipher text h.own
    leaves : after ≡ left

  call : (after : SessionRecord) (o : Option Datagram) (d : Datagram) → o ≡ Some d → NextDatagram cipher time (record r { state = calling }) after o → IsCalled after d
  call _ _ d is (silent spoken none) = let not : item ∷ [] ≡ [] = sym due ∙ none in absurd cc
  call _ _ d is (leaves after o spoken none next) = let not : item ∷ [] ≡ [] = sym due ∙ none in absurd cc
  call _ _ d is (compound some fresh) = record {
    fresh = fresh;
    sealed = same_Some d (sealed_compound cipher text h.own) (sym is ∙ (λ i. option_map (sealed_compound cipher (plain_is i)) (h.seals i)));
    leaves = λ i. record r { state = record r.state { feedback = none_waits i; sealing = option_map counted (h.seals i) } };
  }

  abbrev called_session : Session
  called_session = record { tx = a.tx; rx = record (a.rx) { now = time }; rtcp = a.rtcp + 1 }

  called_mirrors : exhausts time calling ≡ false → Mirrors cipher C side left called_session
  called_mirrors fresh = record {
    own = counted h.own;
    other = h.other;
    seals = refl;
    opens = h.opens;
    own_seals = h.own_seals;
    other_seals = h.other_seals;
    own_reports = h.own_reports;
    other_reports = h.other_reports;
    index = ap (λ (n : ℕ). n + 1) h.index;
    bounded = some_left fresh;
    types = h.types;
    trip = h.trip;
    owns = h.owns;
    outgoing = h.outgoing;
    incoming = h.incoming;
    tx =
        zip_weaker (TxMirrors r.state.types r.state.medias a.rx.now None r.repairs) (TxMirrors r.state.types r.state.medias time None r.repairs)
        (tx_later r.state.types a.rx.now time le r.state.medias None r.repairs) r.state.tx a.tx h.tx;
    rx = rx_still C.threshold a.rx.trip r left.state r.repairs a.rx.table h.rx;
    originals = h.originals;
    sections = h.sections;
    known = h.known;
    last_round = h.last_round;
    target = h.target;
    feedback = refl;
    released = h.released;
    application = h.application;
    packet = h.packet;
  }

  abbrev items : List RtcpFb
  items = feedback_in text

  call_so : (after : SessionRecord) (d : Datagram) → IsCalled after d → TurnsTo cipher C side r a after (called time ∷ event_of r.state.transport.exts d ∷ [])
  call_so after d c =
      let base : TurnsTo cipher C side r a left (called time ∷ sealed_items a.rtcp items ∷ []) =
      record {
        session = called_session;
        turn = calls time items le (feedback_is_other frames f fits.writable);
        mirrors = called_mirrors c.fresh;
        types = refl;
        exts = refl;
        runs = refl;
      } in
      let event : sealed_items a.rtcp items ≡ event_of r.state.transport.exts d =
      ap (λ (n : ℕ). sealed_items n items) (sym h.index) ∙ ap (event_of r.state.transport.exts) (sym c.sealed) in
      subst (λ (s : SessionRecord). TurnsTo cipher C side r a s (called time ∷ event_of r.state.transport.exts d ∷ [])) (sym c.leaves)
      (subst (λ (e : Event). TurnsTo cipher C side r a left (called time ∷ e ∷ [])) event base)

pub calls_turn : FramesReadBack → CallsTurn
calls_turn frames cipher C side r after a time f d fit h le later fits next =
    call_so frames cipher C side r a time f h le later fits after d (call frames cipher C side r a time f h le later fits after (Some d) d refl next)
