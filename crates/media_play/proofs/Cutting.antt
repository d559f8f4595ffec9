-- Why a tick is not played, and what a session tells of bytes that came.
use Rattle.std.proofs.Common.{◌≡◌, ℕ, Bool, cond, ◌||◌, List, [], ◌∷◌, ◌++◌, map, drop, Option, Some, None, is_none, refl, sym, ap, ◌∙◌, subst}
use Rattle.std.specs.Option.{option_map, option_to_list}
use Rattle.srtp_core.specs.Cipher.{CipherMeaning}
use Rattle.srtp_core.specs.Contexts.{SrtpState}
use Rattle.srtp_core.specs.declared.counter.Counter.TheVariants as srtcp
use Rattle.rtcp_wire.specs.declared.feedback.AppSpecificFeedback.{AppSpecificFeedback}
use Rattle.stream_core.specs.declared.packet.RtpPacket.{RtpPacket as Packet}
use Rattle.stream_core.specs.declared.stream_paused.StreamPaused.{StreamPaused}
use Rattle.stream_core.specs.Pauses.{pauses}
use Rattle.session_core.specs.declared.datagram.Datagram.{Datagram}
use Rattle.session_core.specs.declared.datagram.Event.{Event}
use Rattle.session_core.specs.declared.datagram.Event.TheVariants.{RtpPacket, StreamPaused as Paused, AppSpecificFeedback as Application}
use Rattle.session_core.specs.declared.datagram.Opened.{Opened as Opening}
use Rattle.session_core.specs.declared.error.RtcError.{RtcError}
use Rattle.session_core.specs.declared.error.RtcError.TheVariants.{Memory, Stopped, KeyExhausted, RepairsExhausted, KeyLength}
use Rattle.session_core.specs.Calls.{told}
use Rattle.session_core.specs.News.{NewsRecord, keyframe_event, sender_event, rate_event, news_told}
use Rattle.session_core.specs.Draining.{IsDrainCut, at_poll, between_polls, IsCutOff, at_event, later}
use Rattle.rtp_wire.specs.declared.header.RtpHeader.{RtpHeader}
use Rattle.session_core.specs.Mapping.{taken_up_for}
use Rattle.session_core.specs.Receiving.{Receives, opened, repaired, padding, stays, cut, after_repair, after_restoring}
use Rattle.rtp_wire.specs.Repairs.{original_number}
use Rattle.session_core.specs.Rounds.{after_timeout}
use Rattle.session_core.specs.Sending.{DrainsTo}
use Rattle.session_core.specs.SessionRecord.{SessionRecord}
use Rattle.session_turns.specs.Laws.{IsCutFor, TicksCut}
use Rattle.session_turns.specs.Reading.{events_of}
use Rattle.session_turns.specs.Rights.{SealsAreRight}
use Rattle.media_model.specs.declared.entry.Side.{Side}
use Rattle.media_model.specs.declared.entry.Entry.{Entry}
use Rattle.media_model.specs.declared.entry.Entry.TheVariants.{Ticked}
use Rattle.media_model.specs.declared.setup.Setup.{Setup}
use Rattle.run_model.specs.Whole.{Session}
use Rattle.media_laws.specs.Config.{config_of}
use Rattle.media_laws.specs.Exhausting.{IsCutTick}
use Rattle.media_laws.specs.Keys.{sealing_of}
use Rattle.media_play.specs.declared.fault.StepError.{StepError}
use Rattle.media_play.specs.Errors.{cut_as}
use Rattle.media_play.specs.Packets.{seals_from, packet_after, packet_in}
use Rattle.media_play.specs.Sessions.{EndState, ReadyAt, IsTickCause}
use Rattle.media_play.proofs.Rightly.{sent_read, right_seals}

cause_of : (cipher : CipherMeaning) (setup : Setup) (side : Side) (a : Session) (time : ℕ) (error : RtcError) (sealed : List Entry)
    (tick : IsCutTick (sealing_of cipher setup) setup side a time sealed) → IsCutFor error tick.streams tick.next
    → IsTickCause cipher setup side a time (cut_as side error) (Ticked side time ∷ sealed)
cause_of cipher setup side a time Memory sealed tick due = tt
cause_of cipher setup side a time Stopped sealed tick due = tt
cause_of cipher setup side a time (KeyExhausted srtcp.Rtcp) sealed tick due = (refl, (sealed, refl, tick, due))
cause_of cipher setup side a time (RepairsExhausted ssrc) sealed tick due = (refl, (sealed, refl, tick, due))
cause_of cipher setup side a time KeyLength sealed tick due = tt

-- an error ends polls after some that gave all that was sent
drained_before : {cipher : CipherMeaning} {now : ℕ} {r : SessionRecord} {error : RtcError} {after : SessionRecord} {sent : List Datagram}
    → IsDrainCut cipher now r error after sent → (between : SessionRecord) × DrainsTo cipher now r between sent
drained_before (at_poll between after e sent drained fails) = (between, drained)
drained_before (between_polls between sent drained) = (between, drained)

-- a tick whose drain is cut off tells what was sealed before
pub tick_cause : TicksCut → SealsAreRight → {cipher : CipherMeaning} {setup : Setup} {side : Side} {end : EndState} {a : Session} {entries : List Entry} {time : ℕ}
    (at : ReadyAt cipher setup side end a entries time) (error : RtcError) (after : SessionRecord) (events : List Event) (sent : List Datagram) (e : StepError) → e ≡ cut_as side error
    → IsCutOff cipher time (after_timeout time at.ready.session) error after events sent
    → IsTickCause cipher setup side a time e (Ticked side time ∷ seals_from side sent)
tick_cause cuts rights {cipher} {setup} {side} {end} {a} {entries} {time} at _ _ _ _ e is (at_event between taken told after) =
    subst (λ (x : StepError). IsTickCause cipher setup side a time x (Ticked side time ∷ [])) (sym is) tt
tick_cause cuts rights {cipher} {setup} {side} {end} {a} {entries} {time} at _ _ _ _ e is (later error after sent drained) =
    let ready = at.ready in
    let m = ready.mirrors in
    let r = ready.session in
    let C = config_of (sealing_of cipher setup) setup in
    let before = drained_before drained in
    let to = cuts cipher C side r after a time error sent ready.fit m at.late at.some at.early drained in
    let right = rights cipher C side r before.0 a m.own time sent ready.fit m m.seals at.some before.1 in
    let tick : IsCutTick (sealing_of cipher setup) setup side a time (seals_from side sent) = record {
      right = right_seals m ready.exts sent right;
      new = events_of r.state.transport.exts sent;
      read = sent_read setup r.state.transport.exts side sent ready.exts;
      streams = to.streams;
      next = to.next;
      cut = to.cut;
    } in
    subst (λ (x : StepError). IsTickCause cipher setup side a time x (Ticked side time ∷ seals_from side sent)) (sym is)
    (cause_of cipher setup side a time error (seals_from side sent) tick to.cause)

-- bytes that come leave keys and feedback as they were
pub record Keeps (r after : SessionRecord) : Type 0 where
  pub sealing : after.state.sealing ≡ r.state.sealing
  pub opening : after.state.opening ≡ r.state.opening
  pub application : after.state.application ≡ r.state.application

restoring_keeps : (now : ℕ) (h : RtpHeader) (original : ℕ) (o : Option ℕ) (rest : List ℕ) (s : SessionRecord) → Keeps s (after_restoring now h original o rest s)
restoring_keeps now h original None rest s = record { sealing = refl; opening = refl; application = refl }
restoring_keeps now h original (Some m) rest s = record { sealing = refl; opening = refl; application = refl }

pub keeps : {cipher : CipherMeaning} {r : SessionRecord} {bytes : List ℕ} {now : ℕ} {after : SessionRecord} {o : Option Opening} → Receives cipher r bytes now after o → Keeps r after
keeps (opened h n payload k) = record { sealing = refl; opening = refl; application = refl }
keeps {r = r} {now = now} (repaired h original n payload opens) =
    let k = restoring_keeps now h original (original_number (cut h payload)) (drop 2 (cut h payload)) (after_repair now h original n (taken_up_for h r)) in
    record { sealing = k.sealing; opening = k.opening; application = k.application }
keeps (padding h n payload k) = record { sealing = refl; opening = refl; application = refl }
keeps (stays main others early) = record { sealing = refl; opening = refl; application = refl }

packet_in-append : (xs ys : List Event) (q : Option Packet) → packet_in (xs ++ ys) q ≡ packet_in ys (packet_in xs q)
packet_in-append [] ys q = refl
packet_in-append (x ∷ xs) ys q = packet_in-append xs ys (packet_after x q)

none_in : {X : Type 0} (event : X → Event) → ((x : X) (q : Option Packet) → packet_after (event x) q ≡ q) → (xs : List X) (q : Option Packet) → packet_in (map event xs) q ≡ q
none_in event none [] q = refl
none_in event none (x ∷ xs) q = ap (packet_in (map event xs)) (none x q) ∙ none_in event none xs q

-- what the peer asks and tells of streams is no packet
none_in_news : (n : NewsRecord) (q : Option Packet) → packet_in (news_told n) q ≡ q
none_in_news n q =
    let keyframes = map keyframe_event n.keyframes in
    let senders = map sender_event n.senders in
    let rates = map rate_event n.rates in
    packet_in-append keyframes (senders ++ rates) q
    ∙ ap (packet_in (senders ++ rates)) (none_in keyframe_event (λ x p. refl) n.keyframes q)
    ∙ packet_in-append senders rates q
    ∙ ap (packet_in rates) (none_in sender_event (λ x p. refl) n.senders q)
    ∙ none_in rate_event (λ x p. refl) n.rates q

abbrev behind_application : SessionRecord → List Event
behind_application s = map Paused (pauses s.rx) ++ (option_to_list (option_map RtpPacket s.state.packet) ++ news_told s.state.news)

paused_only : (ps : List StreamPaused) (q : Option Packet) (n : NewsRecord) → packet_in (map Paused ps ++ (option_to_list (option_map RtpPacket q) ++ news_told n)) None ≡ q
paused_only [] None n = none_in_news n None
paused_only [] (Some q) n = none_in_news n (Some q)
paused_only (p ∷ ps) q n = paused_only ps q n

-- where there are keys and no feedback of an application waits, the packet that is told is the one that waits
pub told_packet : (s : SessionRecord) {a b : SrtpState} → s.state.sealing ≡ Some a → s.state.opening ≡ Some b → s.state.application ≡ None → packet_in (told s) None ≡ s.state.packet
told_packet s seals keyed empty =
    ap {A = Bool} {B = Option Packet} (λ b. packet_in (cond b [] (option_to_list (option_map Application s.state.application) ++ behind_application s)) None)
    (ap (λ x. is_none x || is_none s.state.opening) seals ∙ ap is_none keyed)
    ∙ ap {A = Option AppSpecificFeedback} {B = Option Packet} (λ a. packet_in (option_to_list (option_map Application a) ++ behind_application s) None) empty
    ∙ paused_only (pauses s.rx) s.state.packet s.state.news
