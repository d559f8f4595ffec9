-- A stream that is due is polled: the session after that, by its record.
use Rattle.std.proofs.Common.{◌≡◌, ℕ, Bool, true, false, List, [], Option, Some, None, Ok, Err, is_some, not, refl, sym, ap, subst, ◌∙◌}
use Rattle.std.specs.Prelude.{if◌then◌else◌, ◌==◌, ◌&&◌, ◌||◌, is_none, ◌↔◌, IsTrue, IfSome, IfNone, IfOk, IfErr, OnOk, OnErr, IsErrOf, Result}
use Rattle.std.specs.Option.{option_map}
use Rattle.rtcp_wire.specs.declared.packet.Rtcp.{Rtcp}
use Rattle.srtp_core.specs.declared.counter.Counter.TheVariants as counter
use Rattle.session_core.specs.declared.datagram.Datagram.{Datagram}
use Rattle.session_core.specs.declared.error.RtcError.{RtcError}
use Rattle.session_core.specs.Feedback.{AreLeft, compound_of, items_after, sealed_compound, counted, is_used_up, due_of, some_due, exhausts, after_compound}
use Rattle.session_core.proofs.Failing.{some_is_due, compound_left, later_due, not_true, ok_is_not, same_error}
use Rattle.repair_core.specs.Rounds.{Heard}
use Rattle.resend_core.specs.ResendStore.{Past}
use Rattle.stream_core.specs.declared.stream_tx.PacketReceipt.{PacketReceipt}
use Rattle.stream_core.specs.declared.transport.Transport.{Transport}
use Rattle.stream_core.specs.RxRecord.{RxView, StandsFor as RxStandsFor}
use Rattle.stream_core.specs.Repairing.{SentPacket}
use Rattle.stream_core.specs.Sealing.{after_packet}
use Rattle.stream_core.specs.StreamsRecord.{StreamsView, StreamsRecord, PollsAt, StandsFor as StreamsStand}
use Rattle.stream_core.specs.Tables.{Along}
use Rattle.session_core.specs.SessionRecord.{SessionState, SessionView, SessionRecord, StandsFor, streams_in}
use Rattle.rtx_core.specs.declared.resend.ResendError.{ResendError}
use Rattle.rtx_core.specs.declared.resend.ResendError.TheVariants.{Memory as ResendMemory, Exhausted}
use Rattle.srtp_core.specs.Cipher.{CipherMeaning}
use Rattle.srtp_core.specs.Contexts.{SrtpState}
use Rattle.session_core.specs.declared.error.RtcError.TheVariants.{Memory, KeyExhausted}
use Rattle.session_core.specs.Draining.{PacketFails, packet_lost, after_pass, PollFails, packet, key_used_up}
use Rattle.session_core.specs.Sending.{first_due, next_place, after_streams, unreleased, Gives, NextPacket, given, passed, NextDatagram, silent, packet as leaves, compound, sealed_by, is_silent}
use Rattle.session_core.proofs.Asked.{same_first}

module _ {W S : Type 0} (remembers : W → Heard → Type 0) (stands_for : S → Past SentPacket → Type 0) (v : SessionView W S) (r : SessionRecord) (h : StandsFor remembers stands_for v r) where
  -- the place of the stream that is due
  pub place_is : (o : Option ℕ) → o ≡ first_due v.state.medias v.state.released v.repairs v.state.tx → next_place r ≡ o
  place_is o found =
      sym (found
      ∙ ap (λ (s : SessionState). first_due s.medias s.released v.repairs s.tx) h.state
      ∙ same_first stands_for v.repairs r.repairs h.repairs r.state.medias r.state.released r.state.tx)

  -- its stream was polled
  pub polled_stands : (n : StreamsView W S) (t : Transport) (s : StreamsRecord) (o : Option PacketReceipt) → StreamsStand remembers stands_for n s → n.rx ≡ v.rx
      → n.known ≡ v.known → n.threshold ≡ v.state.pause_threshold → t ≡ (if is_some o then after_packet v.state.transport else v.state.transport)
      → StandsFor remembers stands_for (record v { state = record v.state { tx = n.tx; transport = t; pause_threshold = n.threshold }; rx = n.rx; known = n.known; repairs = n.repairs }) (after_streams r s o)
  polled_stands n t s o stands rx known threshold counted = record {
    state =
        (λ j. record v.state { tx = stands.tx j; transport = counted j; pause_threshold = threshold j })
        ∙ ap {A = SessionState} {B = SessionState} (λ x. record x { tx = s.tx; transport = if is_some o then after_packet x.transport else x.transport }) h.state;
    rx = subst (λ (l : List (ℕ × RxView W)). Along (RxStandsFor remembers) l r.rx) (sym rx) h.rx;
    probes = h.probes;
    seen = h.seen;
    known = known ∙ h.known;
    repairs = stands.repairs;
  }

  -- its stream stays as it was
  pub same_stands : (n : StreamsView W S) (t : Transport) → n ≡ record { threshold = v.state.pause_threshold; rx = v.rx; known = v.known; tx = v.state.tx; repairs = v.repairs } → t ≡ v.state.transport
      → StandsFor remembers stands_for (record v { state = record v.state { tx = n.tx; transport = t; pause_threshold = n.threshold }; rx = n.rx; known = n.known; repairs = n.repairs }) r
  same_stands n t same kept =
      let Q : StreamsView W S → Transport → Type 0 =
      λ m u. StandsFor remembers stands_for (record v { state = record v.state { tx = m.tx; transport = u; pause_threshold = m.threshold }; rx = m.rx; known = m.known; repairs = m.repairs }) r in
      subst (λ m. Q m t) (sym same) (subst (λ u. Q (record { threshold = v.state.pause_threshold; rx = v.rx; known = v.known; tx = v.state.tx; repairs = v.repairs }) u) (sym kept) h)

  -- none is due
  pub unreleased_stands : StandsFor remembers stands_for (record v { state = record v.state { released = false } }) (unreleased r)
  unreleased_stands = record {
    state = ap {A = SessionState} {B = SessionState} (λ x. record x { released = false }) h.state;
    rx = h.rx;
    probes = h.probes;
    seen = h.seen;
    known = h.known;
    repairs = h.repairs;
  }

  -- what the stream at a place gave, by the record
  pub gives_is : (now place : ℕ) (s : StreamsRecord) (o : Option PacketReceipt) → PollsAt v.state.types v.state.transport now place (streams_in r) s o → Gives now r place s o
  gives_is now place s o h1 = subst (λ (t : SessionState). PollsAt t.types t.transport now place (streams_in r) s o) h.state h1

-- an error of a stream is one of two
pub either : (P : Type 0) (e : ResendError) → (e ≡ ResendMemory → P) → (e ≡ Exhausted → P) → P
either P ResendMemory f g = f refl
either P Exhausted f g = g refl

-- the packet that left next was lost before it was sealed
pub lost_packet : (now : ℕ) (r after : SessionRecord) (p : PacketReceipt) → NextPacket now r after (Some p) → PacketFails now r after Memory
lost_packet now r _ p (given _ place s _ next gives) = packet_lost r place s p next gives
lost_packet now r after p (passed _ _ place s _ next gives rest) = after_pass r after place s Memory next gives (lost_packet now (after_streams r s None) after p rest)

-- without keys, or a packet, nothing is sealed
pub sealed_none : (cipher : CipherMeaning) (o : Option SrtpState) → sealed_by cipher o None ≡ None
sealed_none cipher None = refl
sealed_none cipher (Some state) = refl

-- what holds of a value that there is, and where there is none
pub some_at : {X : Type 0} (P : X → Type 0) (o : Option X) (x : X) → o ≡ Some x → IfSome o P → P x
some_at P None x is h = absurd cc
some_at P (Some y) x is h = let same : y ≡ x = cc in subst P same h

pub none_at : {X : Type 0} (P : Type 0) (o : Option X) → o ≡ None → IfNone o P → P
none_at P None is h = h
none_at P (Some y) is h = absurd cc

-- a compound is due
module _ {W S : Type 0} (remembers : W → Heard → Type 0) (stands_for : S → Past SentPacket → Type 0) (cipher : CipherMeaning) (now : ℕ) (v : SessionView W S)
    (later : (now == 0) ≡ false) (some : v.state.feedback ≡ [] → ⊥) (sealing : Option SrtpState) (items : List Rtcp) where
  some_due_in : (r : SessionRecord) → v.state ≡ r.state → some_due (due_of now r.state) ≡ true
  some_due_in r same = some_is_due (due_of now r.state) (λ none. some (ap (λ (s : SessionState). s.feedback) same ∙ sym (later_due now r.state later) ∙ none))

  used_in : (r : SessionRecord) → v.state ≡ r.state → (b : Bool) → is_used_up v.state.sealing ≡ b → exhausts now r.state ≡ b
  used_in r same b is = (λ i. some_due_in r same i && is_used_up r.state.sealing) ∙ sym (ap (λ (s : SessionState). is_used_up s.sealing) same) ∙ is

  pub compound_given : (o : Result (Option Datagram) RtcError) → (IsErrOf o (KeyExhausted counter.Rtcp) ↔ IsTrue (is_used_up v.state.sealing))
      → IfOk o (λ d. d ≡ option_map (sealed_compound cipher (compound_of v.state.target v.state.feedback)) v.state.sealing)
      → OnOk o (items ≡ items_after v.state.target v.state.feedback) → OnOk o (sealing ≡ option_map counted v.state.sealing)
      → IfOk o (λ d. (r : SessionRecord) → StandsFor remembers stands_for v r → (after : SessionRecord) × NextDatagram cipher now r after d
      × StandsFor remembers stands_for (record v { state = record v.state { feedback = items; sealing = sealing } }) after)
  compound_given (Err e) used said left next = tt
  compound_given (Ok d) used said left next = λ r h.
      let fresh = not_true (is_used_up v.state.sealing) (λ t. ok_is_not d _ (used.1 t)) in
      let same : d ≡ option_map (sealed_compound cipher (compound_of r.state.target r.state.feedback)) r.state.sealing =
      said ∙ ap (λ (s : SessionState). option_map (sealed_compound cipher (compound_of s.target s.feedback)) s.sealing) h.state in (
        _,
        subst (λ x. NextDatagram cipher now r (record r { state = after_compound r.state }) x) (sym same) (compound (some_due_in r h.state) (used_in r h.state false fresh)),
        record {
          state = (λ j. record v.state { feedback = left j; sealing = next j }) ∙ ap {A = SessionState} {B = SessionState} after_compound h.state;
          rx = h.rx;
          probes = h.probes;
          seen = h.seen;
          known = h.known;
          repairs = h.repairs;
        },
      )

  pub compound_failed : (o : Result (Option Datagram) RtcError) → (IsErrOf o (KeyExhausted counter.Rtcp) ↔ IsTrue (is_used_up v.state.sealing))
      → (is_used_up v.state.sealing ≡ false → IfErr o (λ e. e ≡ Memory)) → OnErr o (sealing ≡ v.state.sealing) → (IsTrue (is_used_up v.state.sealing) → items ≡ v.state.feedback)
      → OnErr o (AreLeft v.state.target v.state.feedback items)
      → IfErr o (λ e. (r : SessionRecord) → StandsFor remembers stands_for v r → (after : SessionRecord) × PollFails now r after e
      × StandsFor remembers stands_for (record v { state = record v.state { feedback = items; sealing = sealing } }) after)
  compound_failed (Ok d) used memory unsealed kept lost = tt
  compound_failed (Err e) used memory unsealed kept lost = λ r h. by r h (is_used_up v.state.sealing) refl
    where
      by : (r : SessionRecord) → StandsFor remembers stands_for v r → (b : Bool) → is_used_up v.state.sealing ≡ b
          → (after : SessionRecord) × PollFails now r after e × StandsFor remembers stands_for (record v { state = record v.state { feedback = items; sealing = sealing } }) after
      by r h true is =
          let key = same_error {T = Option Datagram} e (KeyExhausted counter.Rtcp) (used.1 is) in (
            r,
            subst (λ x. PollFails now r r x) (sym key) (key_used_up (used_in r h.state true is)),
            record { state = (λ j. record v.state { feedback = kept is j; sealing = unsealed j }) ∙ h.state; rx = h.rx; known = h.known; probes = h.probes; seen = h.seen; repairs = h.repairs },
          )
      by r h false is =
          let left : AreLeft r.state.target r.state.feedback items = subst (λ (s : SessionState). AreLeft s.target s.feedback items) h.state lost in (
            _,
            subst (λ x. PollFails now r (record r { state = record r.state { feedback = items } }) x) (sym (memory is))
                (compound_left now r items (λ none. some (ap (λ (s : SessionState). s.feedback) h.state ∙ sym (later_due now r.state later) ∙ none)) (used_in r h.state false is) left),
            record {
              state = (λ j. record v.state { feedback = items; sealing = unsealed j }) ∙ ap {A = SessionState} {B = SessionState} (λ s. record s { feedback = items }) h.state;
              rx = h.rx;
              probes = h.probes;
              seen = h.seen;
              known = h.known;
              repairs = h.repairs;
            },
          )

-- there are keys exactly where the test says so
pub none_when : {X : Type 0} (o : Option X) (told b : Bool) → is_some o ≡ not told → told ≡ b → is_none o ≡ b
none_when None true b said is = is
none_when None false b said is = absurd cc
none_when (Some x) true b said is = absurd cc
none_when (Some x) false b said is = is

-- a packet was sealed, and the keys stay
pub sealed_stands : {W S : Type 0} (remembers : W → Heard → Type 0) (stands_for : S → Past SentPacket → Type 0) (v : SessionView W S) (r : SessionRecord) → StandsFor remembers stands_for v r
    → (sealing : Option SrtpState) → sealing ≡ v.state.sealing → StandsFor remembers stands_for (record v { state = record v.state { sealing = sealing } }) r
sealed_stands remembers stands_for v r h sealing same = record {
  state = ap {A = Option SrtpState} {B = SessionState} (λ o. record v.state { sealing = o }) same ∙ h.state;
  rx = h.rx;
  probes = h.probes;
  seen = h.seen;
  known = h.known;
  repairs = h.repairs;
}

-- a poll of a session, by what is due
module _ {W S : Type 0} (remembers : W → Heard → Type 0) (stands_for : S → Past SentPacket → Type 0) (cipher : CipherMeaning) (now : ℕ) (v : SessionView W S) (r : SessionRecord)
    (h : StandsFor remembers stands_for v r) where
  -- nothing leaves at moment 0
  pub zero_given : (now == 0) ≡ true → (after : SessionRecord) × NextDatagram cipher now r after None × StandsFor remembers stands_for v after
  zero_given zero = (r, silent (ap (λ b. b || is_none r.state.sealing) zero) (ap (λ (b : Bool). if b then [] else r.state.feedback) zero), h)

  module _ (later : (now == 0) ≡ false) (none : v.state.feedback ≡ []) where
    nothing_due : due_of now r.state ≡ []
    nothing_due = later_due now r.state later ∙ ap (λ (s : SessionState). s.feedback) (sym h.state) ∙ none

    keys_are : (b : Bool) → is_none v.state.sealing ≡ b → is_silent now r.state ≡ b
    keys_are b is = ap (λ z. z || is_none r.state.sealing) later ∙ ap (λ (s : SessionState). is_none s.sealing) (sym h.state) ∙ is

    -- nor without keys
    pub keyless_given : is_none v.state.sealing ≡ true → (after : SessionRecord) × NextDatagram cipher now r after None × StandsFor remembers stands_for v after
    keyless_given keys = (r, silent (keys_are true keys) nothing_due, h)

    module _ (keys : is_none v.state.sealing ≡ false) where
      pub packet_given : (after : SessionRecord) (o : Option PacketReceipt) (d : Option Datagram) → d ≡ sealed_by cipher v.state.sealing o → NextPacket now r after o → NextDatagram cipher now r after d
      packet_given after o d is next =
          let same : d ≡ sealed_by cipher r.state.sealing o = is ∙ ap (λ (s : SessionState). sealed_by cipher s.sealing o) h.state in
          subst (λ x. NextDatagram cipher now r after x) (sym same) (leaves after o (keys_are false keys) nothing_due next)

      pub packet_failed : (after : SessionRecord) (e : RtcError) → PacketFails now r after e → PollFails now r after e
      packet_failed after e f = packet after e (keys_are false keys) nothing_due f

-- what is said of a session's view, is said of its fields
module _ {W S X : Type 0} (remembers : W → Heard → Type 0) (stands_for : S → Past SentPacket → Type 0) (o : Result X RtcError) (inside v : SessionView W S) (view : inside ≡ v) where
  pub given_from : (P : X → SessionRecord → Type 0) → IfOk o (λ d. (r : SessionRecord) → StandsFor remembers stands_for inside r → P d r)
      → IfOk o (λ d. (r : SessionRecord) → StandsFor remembers stands_for v r → P d r)
  given_from P h = subst (λ s. IfOk o (λ d. (r : SessionRecord) → StandsFor remembers stands_for s r → P d r)) view h

  pub failed_from : (P : RtcError → SessionRecord → Type 0) → IfErr o (λ e. (r : SessionRecord) → StandsFor remembers stands_for inside r → P e r)
      → IfErr o (λ e. (r : SessionRecord) → StandsFor remembers stands_for v r → P e r)
  failed_from P h = subst (λ s. IfErr o (λ e. (r : SessionRecord) → StandsFor remembers stands_for s r → P e r)) view h
