-- What an end knows of a request, and that a request is a turn of an end.
use Rattle.std.proofs.Common.{◌≡◌, ℕ, zero, suc, false, true, List, [], ◌∷◌, map, slice_get, Option, Some, None, refl, sym, ap, ◌∙◌, subst}
use Rattle.std.specs.List.{AllZip}
use Rattle.std.specs.Map.{keys_of}
use Rattle.mask_register.specs.declared.register.MaskRegister.{MaskRegister}
use Rattle.mask_register.specs.MaskRegister.{Remembers}
use Rattle.srtp_core.specs.Cipher.{CipherMeaning}
use Rattle.stream_core.specs.declared.requests.RxRequests.{RxRequests}
use Rattle.stream_core.specs.Pauses.{on_view, on_record}
use Rattle.stream_core.specs.RxRecord.{RxView, RxRecord as StreamRx, StandsFor as RxStandsFor}
use Rattle.stream_core.specs.Tables.{place_of, change_place, Along}
use Rattle.session_core.specs.SessionRecord.{SessionRecord}
use Rattle.session_turns.specs.Laws.{RequestsTurn, requesting}
use Rattle.session_turns.specs.Mirrors.{RxStands, RxMirror, rx_mirror}
use Rattle.media_model.specs.declared.entry.Side.{Side}
use Rattle.media_model.specs.declared.entry.Entry.{Entry}
use Rattle.media_model.specs.declared.entry.Entry.TheVariants.{Called}
use Rattle.media_model.specs.declared.entry.Call.TheVariants as call
use Rattle.media_model.specs.declared.setup.Setup.{Setup}
use Rattle.media_model.specs.Setup.{streams_of}
use Rattle.media_model.specs.Steps.{step_at}
use Rattle.media_model.specs.Sides.{peer_of}
use Rattle.run_model.specs.Events.{Incoming, Outgoing, called}
use Rattle.run_model.specs.RxPlay.{RxRecord}
use Rattle.run_model.specs.Transcripts.{outgoing_of}
use Rattle.run_model.specs.Whole.{Session, incoming_of}
use Rattle.media_laws.specs.declared.fault.StepFault.TheVariants.{UnknownStream}
use Rattle.media_laws.specs.Config.{config_of}
use Rattle.media_laws.specs.Keys.{sealing_of}
use Rattle.media_laws.specs.Opening.{Sealing}
use Rattle.media_laws.specs.Play.{AreEntriesOf, requested as requested_step}
use Rattle.media_laws.specs.Rules.{has, act_fault, request_fault}
use Rattle.media_play.specs.declared.request.Request.{Request}
use Rattle.media_play.specs.declared.request.Request.TheVariants.{Keyframe, Rate}
use Rattle.media_play.specs.Ends.{EndSession, SessionStands}
use Rattle.media_play.specs.Requests.{call_for, act_for, requested}
use Rattle.media_play.specs.Sessions.{EndState, Ready, ReadyAt, TurnsOn}
use Rattle.media_play.proofs.Keys.{key_at, key_absent, has_from_get}
use Rattle.media_play.proofs.Knowings.{line_ssrcs}
use Rattle.media_play.proofs.Turned.{turned_quiet}

-- the streams that an end receives

keys_along : {X Y : Type 0} (R : X → Y → Type 0) (xs : List (ℕ × X)) (ys : List (ℕ × Y)) → Along R xs ys → keys_of xs ≡ keys_of ys
keys_along R [] [] h = refl
keys_along R [] (y ∷ ys) h = absurd h
keys_along R (x ∷ xs) [] h = absurd h
keys_along R (x ∷ xs) (y ∷ ys) h = λ i. h.0.0 i ∷ keys_along R xs ys h.1 i

keys_stand : (threshold : ℕ) (trip : Option ℕ) (seen : List (ℕ × List ℕ)) (es : List (ℕ × StreamRx)) (ss : List (Incoming × RxRecord)) → AllZip (RxStands threshold trip seen) es ss
    → keys_of es ≡ map (λ (L : Incoming). L.ssrc) (map (λ (s : Incoming × RxRecord). s.0) ss)
keys_stand threshold trip seen [] [] h = refl
keys_stand threshold trip seen [] (s ∷ ss) h = absurd h
keys_stand threshold trip seen (e ∷ es) [] h = absurd h
keys_stand threshold trip seen (e ∷ es) (s ∷ ss) h = λ i. h.0.key i ∷ keys_stand threshold trip seen es ss h.1 i

behind_first : {X : Type 0} (x y : X) (xs ys : List X) → x ∷ xs ≡ y ∷ ys → xs ≡ ys
behind_first x y xs ys e = cc

incoming_keys : {threshold : ℕ} {trip : Option ℕ} {r : SessionRecord} {table : List (Incoming × RxRecord)} → RxMirror threshold trip r table → (first : Incoming) (rest : List Incoming)
    → map (λ (s : Incoming × RxRecord). s.0) table ≡ first ∷ rest → keys_of r.rx ≡ map (λ (L : Incoming). L.ssrc) rest
incoming_keys {threshold} {trip} {r} (rx_mirror s ss probes own others) first rest e =
    keys_stand threshold trip r.seen r.rx ss others
    ∙ ap (map (λ (L : Incoming). L.ssrc)) (behind_first s.0 first (map (λ (x : Incoming × RxRecord). x.0) ss) rest e)

incoming_ssrcs : (Ms : List Outgoing) → map (λ (L : Incoming). L.ssrc) (map incoming_of Ms) ≡ map (λ (M : Outgoing). M.ssrc) Ms
incoming_ssrcs [] = refl
incoming_ssrcs (M ∷ Ms) = ap (λ (ns : List ℕ). M.ssrc ∷ ns) (incoming_ssrcs Ms)

-- what an end that is ready tells of a request

module _ {cipher : CipherMeaning} {setup : Setup} {side : Side} {end : EndState} {a : Session} {entries : List Entry} (ready : Ready cipher setup side end a entries) where
  rx_keys : keys_of end.session.rx ≡ streams_of (peer_of side) setup
  rx_keys =
      keys_along (RxStandsFor Remembers) end.session.rx ready.session.rx ready.stands.rx
      ∙ incoming_keys ready.mirrors.rx _ (map incoming_of (outgoing_of (peer_of side) setup)) ready.mirrors.incoming
      ∙ incoming_ssrcs (outgoing_of (peer_of side) setup)
      ∙ line_ssrcs setup (peer_of side)

  pub unknown_request : (ssrc : ℕ) → place_of ssrc end.session.rx ≡ None → request_fault setup side ssrc ≡ Some UnknownStream
  unknown_request ssrc none =
      let stream : has (streams_of (peer_of side) setup) ssrc ≡ false = subst (λ ns. has ns ssrc ≡ false) rx_keys (key_absent ssrc (keys_of end.session.rx) none) in
      rw stream refl

  pub known_request : (ssrc at : ℕ) → place_of ssrc end.session.rx ≡ Some at → request_fault setup side ssrc ≡ None
  known_request ssrc at place =
      let stream : has (streams_of (peer_of side) setup) ssrc ≡ true =
      has_from_get ssrc (streams_of (peer_of side) setup) at (subst (λ ns. slice_get ns at ≡ Some ssrc) rx_keys (key_at ssrc (keys_of end.session.rx) at place)) in
      rw stream refl

-- the stream at a place asks for something else

requests_stand : (f : RxRequests → RxRequests) (xs : List (ℕ × RxView MaskRegister)) (ys : List (ℕ × StreamRx)) (place : ℕ) → Along (RxStandsFor Remembers) xs ys
    → Along (RxStandsFor Remembers) (change_place (on_view (requesting f)) xs place) (change_place (on_record (requesting f)) ys place)
requests_stand f [] [] place h = h
requests_stand f [] (y ∷ ys) place h = absurd h
requests_stand f (x ∷ xs) [] place h = absurd h
requests_stand f (x ∷ xs) (y ∷ ys) zero h =
    ((h.0.0, record { state = ap (requesting f) h.0.1.state; window = h.0.1.window; repairs = h.0.1.repairs; recent = h.0.1.recent }), h.1)
requests_stand f (x ∷ xs) (y ∷ ys) (suc place) h = (h.0, requests_stand f xs ys place h.1)

pub turned_requested : {cipher : CipherMeaning} {setup : Setup} {side : Side} {end : EndState} {a : Session} {entries : List Entry} {time : ℕ} → RequestsTurn
    → ReadyAt cipher setup side end a entries time → (what : Request) (place : ℕ) (new : EndState)
    → ◌≡◌ {A = EndSession} new.session (record end.session { rx = change_place (on_view (requesting (requested what))) end.session.rx place })
    → new.written ≡ end.written → TurnsOn cipher setup side a new entries (Called side time (call_for what) ∷ [])
turned_requested {cipher} {setup} {side} {end} {a} {entries} {time} law at what place new is same =
    let ready = at.ready in
    let r = ready.session in
    let f = requested what in
    let after : SessionRecord = record r { rx = change_place (on_record (requesting f)) r.rx place } in
    let stands : SessionStands new.session after = subst (λ (v : EndSession). SessionStands v after) (sym is) (record {
      state = ready.stands.state;
      rx = requests_stand f end.session.rx r.rx place ready.stands.rx;
      known = ready.stands.known;
      probes = ready.stands.probes;
      seen = ready.stands.seen;
      repairs = ready.stands.repairs;
    }) in
    turned_quiet ready new after (Called side time (call_for what) ∷ []) (called time ∷ []) refl (λ q. refl) refl stands same
    (law cipher (config_of (sealing_of cipher setup) setup) side r a place time f ready.fit ready.mirrors at.late)

-- the act of a request

pub request_rule : (setup : Setup) (past : List Entry) (side : Side) (ssrc : ℕ) (what : Request)
    → act_fault setup past side (act_for ssrc what) ≡ request_fault setup side ssrc
request_rule setup past side ssrc (Keyframe kind) = refl
request_rule setup past side ssrc (Rate rate) = refl

pub request_entries : {seal : Sealing} {setup : Setup} {past : List Entry} (side : Side) (time ssrc : ℕ) (what : Request)
    → AreEntriesOf seal setup past side (step_at side time (act_for ssrc what)) (Called side time (call_for what) ∷ [])
request_entries side time ssrc (Keyframe kind) = requested_step side time call.Ask tt refl
request_entries side time ssrc (Rate rate) = requested_step side time call.Remb tt refl
