-- What two ends exchange, from what each call leaves.
use Rattle.std.proofs.Common.{◌≡◌, ◌<◌, ◌-◌, ℕ, zero, suc, Bool, length, arith, false, true, List, [], ◌∷◌, Option, Some, None, refl, sym, ap, ◌∙◌, subst, slice_get}
use Rattle.std.specs.Prelude.{IfSome, ◌&&◌, nat_le, if◌then◌else◌}
use Rattle.std.specs.Map.{values_of}
use Rattle.indexmap.specs.IndexMap.{set_value_at}
use Rattle.repair_core.specs.Rounds.{Heard}
use Rattle.resend_core.specs.ResendStore.{Past}
use Rattle.rtp_wire.specs.Extensions.{no_values}
use Rattle.rtp_wire.specs.HeaderLaws.{WrittenIsReadAgain}
use Rattle.srtp_core.specs.Contexts.{SrtpState, new_state}
use Rattle.srtp_core.specs.Laws.{RtpSealsApart, RtpSealKeepsHeader}
use Rattle.srtp_core.specs.Toy.{toy_meaning}
use Rattle.srtp_core.specs.declared.profile.SrtpProfile.TheVariants.{AeadAes128Gcm}
use Rattle.stream_core.specs.declared.transport.Transport.{Transport}
use Rattle.stream_core.specs.Repairing.{SentPacket, RepairsStandFor}
use Rattle.stream_core.specs.RxRecord.{expected, StandsFor as RxStandsFor}
use Rattle.stream_core.specs.Known.{KnownRecord}
use Rattle.stream_core.specs.StreamsRecord.{StreamsView, StreamsRecord, no_streams, first_known, with_stream_rx, StandsFor as StreamsStandsFor}
use Rattle.stream_core.specs.Tables.{Along, change_place, with_new}
use Rattle.stream_core.specs.TxRecord.{TxRecord, declared, written}
use Rattle.stream_core.specs.Write.{WriteRecord}
use Rattle.session_core.specs.declared.datagram.Datagram.{Datagram}
use Rattle.session_core.specs.declared.datagram.Event.{Event}
use Rattle.session_core.specs.declared.datagram.Opened.{Opened}
use Rattle.session_core.specs.Calls.{after_event, Polled}
use Rattle.session_core.specs.Medias.{media_of}
use Rattle.session_core.specs.Receiving.{Receives}
use Rattle.session_core.specs.Rounds.{round_interval, after_incoming, after_outgoing, after_checks, after_timeout}
use Rattle.session_core.specs.Sending.{NextDatagram}
use Rattle.session_core.specs.SessionRecord.{SessionState, SessionView, SessionRecord, StandsFor}
use Rattle.uses.specs.Exchange.{payload_told, end_config, end_of}
use Rattle.uses.proofs.Exchanged.{Expects, awaited, sent_bytes, packet_bytes, second_carries, first_write}

-- a value is written over by what it changes to
set_change : {X : Type 0} (f : X → X) (es : List (ℕ × X)) (i : ℕ) (x : X) → slice_get (values_of es) i ≡ Some x → set_value_at es i (f x) ≡ change_place f es i
set_change f [] i x at = refl
set_change f (e ∷ es) zero x at = let same : x ≡ e.1 = cc in λ j. (e.0, f (same j)) ∷ es
set_change f (e ∷ es) (suc i) x at = ap (λ l. e ∷ l) (set_change f es i x at)

-- a session whose stream at the first place changed
pub changed_first : {W S : Type 0} (s : SessionView W S) (lent : StreamsView W S) (f : TxRecord → TxRecord) (was is : TxRecord) → lent.rx ≡ s.rx → lent.tx ≡ s.state.tx
    → lent.threshold ≡ s.state.pause_threshold → lent.known ≡ s.known → lent.repairs ≡ s.repairs → slice_get (values_of lent.tx) 0 ≡ Some was → is ≡ f was
    → record s { state = record s.state { tx = set_value_at lent.tx 0 is; pause_threshold = lent.threshold }; rx = lent.rx; known = lent.known; repairs = lent.repairs } ≡ record s { state = record s.state { tx = change_place f s.state.tx 0 } }
changed_first s lent f was is rx tx threshold known repairs at same =
    let list : set_value_at lent.tx 0 is ≡ change_place f s.state.tx 0 =
    ap (set_value_at lent.tx 0) same ∙ set_change f lent.tx 0 was at ∙ ap (λ es. change_place f es 0) tx in
    λ j. record s { state = record s.state { tx = list j; pause_threshold = threshold j }; rx = rx j; known = known j; repairs = repairs j }

-- a table that one stream was put into
pub holds_one : {X : Type 0} (key : ℕ) (x : X) (es list : List (ℕ × X)) → es ≡ [] → list ≡ with_new key x es → 0 < length list
holds_one key x es list none e =
    let one : length list ≡ 1 = ap length e ∙ ap (λ (l : List (ℕ × _)). length (with_new key x l)) none in
    omega (arith, one)

-- a write whose parts are those of the first one
pub write_is : (pt number now : ℕ) (carried payload : List ℕ) → pt ≡ 96 → number ≡ 1 → carried ≡ payload
    → (let w : WriteRecord = record { pt = pt; seq_no = number; time = 0; wallclock = now; marker = false; ext_vals = no_values; nackable = false; payload = carried; csrc = [] } in w)
    ≡ first_write now payload
write_is pt number now carried payload p n c =
    λ j. record { pt = p j; seq_no = n j; time = 0; wallclock = now; marker = false; ext_vals = no_values; nackable = false; payload = c j; csrc = [] }

module _ (material mid payload : List ℕ) where
  -- the one that sends, once its packet is written, and the one that is sent to, once it expects the stream
  abbrev pub sender : ℕ → SessionRecord
  sender now =
      let made : SessionRecord = end_of material mid true in
      record made { state = record made.state { tx = (42, written (first_write now payload) (declared 42 None mid None)) ∷ [] } }

  abbrev pub knows : ℕ → KnownRecord
  knows ssrc = record { originals = []; streams = first_known ssrc None mid None false ∷ [] }

  abbrev pub receiver : SessionRecord
  receiver = record (end_of material mid false) { rx = (42, awaited mid) ∷ []; known = knows 42 }

  abbrev pub key : SrtpState
  key = new_state toy_meaning AeadAes128Gcm material true 0

  abbrev pub transport : Transport
  transport = (end_of material mid true).state.transport

  -- nothing comes in that a tick could report of or ask for, and the stream does not report before its kind is told
  says_nothing : (now : ℕ) → after_outgoing now (after_incoming now (sender now)) ≡ sender now
  says_nothing now = by (nat_le round_interval (now - 0))
    where
      by : (b : Bool) → (let s : SessionRecord = sender now in record s { state = record s.state { last_round = if b && false then now else 0 } }) ≡ sender now
      by true = refl
      by false = refl

  -- a session that stands for an end, with a stream that it expects
  pub expects : {W S : Type 0} (remembers : W → Heard → Type 0) (holds : S → Past SentPacket → Type 0) (s : SessionView W S) (lent left : StreamsView W S) (ssrc : ℕ) → ssrc ≡ 42
      → StandsFor remembers holds s (end_of material mid false) → lent.rx ≡ s.rx → lent.tx ≡ s.state.tx → lent.threshold ≡ s.state.pause_threshold → lent.known ≡ s.known → lent.repairs ≡ s.repairs
      → ((r : StreamsRecord) → StreamsStandsFor remembers holds lent r
      → StreamsStandsFor remembers holds left (with_stream_rx ssrc None mid None false r))
      → StandsFor remembers holds (record s { state = record s.state { tx = left.tx; pause_threshold = left.threshold }; rx = left.rx; known = left.known; repairs = left.repairs }) receiver
  expects remembers holds s lent left ssrc is made rx tx threshold known repairs ok =
      let before : StreamsStandsFor remembers holds lent (no_streams end_config.pause_threshold) =
      record {
        threshold = threshold ∙ ap (λ (x : SessionState). x.pause_threshold) made.state;
        rx = subst (λ es. Along (RxStandsFor remembers) es []) (sym rx) made.rx;
        known = known ∙ made.known;
        tx = tx ∙ ap (λ (x : SessionState). x.tx) made.state;
        repairs = subst (λ qs. Along (RepairsStandFor holds) qs []) (sym repairs) made.repairs;
      } in
      let after = ok (no_streams end_config.pause_threshold) before in
      let empty : left.tx ≡ [] = after.tx in
      let same : left.threshold ≡ end_config.pause_threshold = after.threshold in
      record {
        state = λ j. record (made.state j) { tx = empty j; pause_threshold = same j };
        rx = subst (λ n. Along (RxStandsFor remembers) left.rx (with_new n (expected n None mid None false end_config.pause_threshold) [])) is after.rx;
        known = after.known ∙ ap knows is;
        probes = made.probes;
        seen = made.seen;
        repairs = after.repairs;
      }

  -- one that stands for the other end, with the packet written on a stream that was declared
  pub writes : {W S : Type 0} (remembers : W → Heard → Type 0) (holds : S → Past SentPacket → Type 0) (now ssrc : ℕ) (w : WriteRecord) (s ended : SessionView W S) (lent left : StreamsView W S) → ssrc ≡ 42 → w ≡ first_write now payload
      → StandsFor remembers holds s (end_of material mid true) → lent.rx ≡ s.rx → lent.tx ≡ s.state.tx → lent.threshold ≡ s.state.pause_threshold → lent.known ≡ s.known → lent.repairs ≡ s.repairs
      → left ≡ record lent { tx = with_new ssrc (declared ssrc None mid None) lent.tx }
      → ended ≡ record s { state = record s.state { tx = change_place (written w) left.tx 0; pause_threshold = left.threshold }; rx = left.rx; known = left.known; repairs = left.repairs }
      → StandsFor remembers holds ended (sender now)
  writes remembers holds now ssrc w s ended lent left is same made rx tx threshold known repairs added wrote =
      let none : lent.tx ≡ [] = tx ∙ ap (λ (x : SessionState). x.tx) made.state in
      let list : left.tx ≡ (42, declared 42 None mid None) ∷ [] =
      ap (λ (v : StreamsView _ _). v.tx) added ∙ (λ j. with_new (is j) (declared (is j) None mid None) (none j)) in
      let wait : left.threshold ≡ s.state.pause_threshold = ap (λ (v : StreamsView _ _). v.threshold) added ∙ threshold in
      let ins : left.rx ≡ s.rx = ap (λ (v : StreamsView _ _). v.rx) added ∙ rx in
      let sources : left.known ≡ s.known = ap (λ (v : StreamsView _ _). v.known) added ∙ known in
      let kept : left.repairs ≡ s.repairs = ap (λ (v : StreamsView _ _). v.repairs) added ∙ repairs in
      let stands : StandsFor remembers holds (record s { state = record s.state { tx = (sender now).state.tx } }) (sender now) =
      record { state = λ j. record (made.state j) { tx = (sender now).state.tx }; rx = made.rx; known = made.known; probes = made.probes; seen = made.seen; repairs = made.repairs } in
      subst (λ (v : SessionView _ _). StandsFor remembers holds v (sender now))
      (sym (wrote ∙ (λ j. record s { state = record s.state { tx = change_place (written (same j)) (list j) 0; pause_threshold = wait j }; rx = ins j; known = sources j; repairs = kept j }))) stands

  -- and what it is after a tick
  pub ticked : {W S : Type 0} (remembers : W → Heard → Type 0) (holds : S → Past SentPacket → Type 0) (now : ℕ) (s after : SessionView W S) → StandsFor remembers holds s (sender now)
      → ((r : SessionRecord) → StandsFor remembers holds s r → StandsFor remembers holds after (after_timeout now r)) → StandsFor remembers holds after (after_checks now (sender now))
  ticked remembers holds now s after stands ok =
      subst (λ (r : SessionRecord). StandsFor remembers holds after (after_checks now r)) (says_nothing now) (ok (sender now) stands)

  pub at_end : {W S : Type 0} (remembers : W → Heard → Type 0) (holds : S → Past SentPacket → Type 0) (now : ℕ) (left leaves_behind before came between : SessionView W S) (sent : Datagram) (bytes : List ℕ)
      (opened : Option Opened) (first second : Option Event)
      → WrittenIsReadAgain → RtpSealKeepsHeader toy_meaning → RtpSealsApart toy_meaning
      → StandsFor remembers holds left (after_checks now (sender now))
      → ((r : SessionRecord) → StandsFor remembers holds left r → (after : SessionRecord) × NextDatagram toy_meaning now r after (Some sent) × StandsFor remembers holds leaves_behind after)
      → bytes ≡ sent.bytes
      → StandsFor remembers holds before receiver
      → ((r : SessionRecord) → StandsFor remembers holds before r → (after : SessionRecord) × Receives toy_meaning r bytes now after opened × StandsFor remembers holds came after)
      → ((r : SessionRecord) → StandsFor remembers holds came r → Polled r first (after_event r))
      → ((r : SessionRecord) → StandsFor remembers holds came r → StandsFor remembers holds between (after_event r))
      → ((r : SessionRecord) → StandsFor remembers holds between r → Polled r second (after_event r))
      → IfSome second (λ e. payload_told e ≡ payload)
  at_end remembers holds now left leaves_behind before came between sent bytes opened first second again keeps apart sends polled handed stands received told leaves told_next =
      let next = polled (after_checks now (sender now)) sends in
      let sealed : bytes ≡ packet_bytes toy_meaning key transport now mid payload =
      handed ∙ sent_bytes toy_meaning key transport now mid payload (after_checks now (sender now)) next.0 sent refl refl (record { transport = refl; media = media_of mid (sender now).state.medias; tx = refl; repairs = refl }) next.1 in
      let after = received receiver stands in
      second_carries toy_meaning key transport now mid payload receiver after.0 (after_event after.0) (after_event (after_event after.0)) opened bytes first second again keeps apart waits sealed after.1
      (told after.0 after.2) (told_next (after_event after.0) (leaves after.0 after.2))
    where
      waits : Expects toy_meaning key transport now mid payload receiver
      waits = record { keys = refl; opening = refl; transport = refl; rx = refl; plain = λ pt. refl; seen = refl; application = refl; news = refl; silent = refl; quiet = refl }
