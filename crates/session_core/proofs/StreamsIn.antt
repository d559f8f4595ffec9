-- The streams of a session, and what a tick leaves.
use Rattle.std.proofs.Common.{◌≡◌, ◌++◌, ℕ, Bool, true, false, List, [], sym, ap, subst, ◌∙◌, append_assoc}
use Rattle.std.proofs.lemmas.List.{append-nil}
use Rattle.std.specs.Prelude.{if◌then◌else◌}
use Rattle.repair_core.specs.Rounds.{Heard}
use Rattle.resend_core.specs.ResendStore.{Past}
use Rattle.stream_core.specs.Repairing.{SentPacket}
use Rattle.rtcp_wire.specs.declared.packet.Rtcp.{Rtcp}
use Rattle.report_core.specs.declared.moments.ReceiverMoment.{ReceiverMoment}
use Rattle.report_core.specs.Moments.{unanswered}
use Rattle.stream_core.specs.Tables.{each}
use Rattle.stream_core.specs.TxRecord.{TxRecord}
use Rattle.stream_core.specs.StreamsRecord.{StandsFor as StreamsStand}
use Rattle.session_core.specs.Reports.{sender_ssrc, due_senders, some_reports, sender_after, sender_items, after_senders, answers, after_answers, sender_and_answers, after_sender_reports}
use Rattle.session_core.proofs.Reported.{same_first}
use Rattle.session_core.specs.SessionRecord.{SessionState, SessionView, SessionRecord, StandsFor, streams_in}

module _ {W S : Type 0} (remembers : W → Heard → Type 0) (stands_for : S → Past SentPacket → Type 0) where
  pub streams_stand : (s : SessionView W S) (r : SessionRecord) → StandsFor remembers stands_for s r
      → StreamsStand remembers stands_for (record { threshold = s.state.pause_threshold; rx = s.rx; known = s.known; tx = s.state.tx; repairs = s.repairs }) (streams_in r)
  streams_stand s r h = record {
    threshold = λ j. (h.state j).pause_threshold;
    rx = h.rx;
    tx = λ j. (h.state j).tx;
    known = h.known;
    repairs = h.repairs;
  }

  pub moved : (s : SessionView W S) (x y : SessionRecord) → x ≡ y → StandsFor remembers stands_for s x → StandsFor remembers stands_for s y
  moved s x y e h = subst (StandsFor remembers stands_for s) e h

-- the outgoing streams changed
pub state_ticked : (s r : SessionState) (t : ℕ) (tx : List (ℕ × TxRecord)) (f : SessionState → List (ℕ × TxRecord)) → s ≡ r → t ≡ s.pause_threshold → tx ≡ f s
    → record s { pause_threshold = t; tx = tx; released = true } ≡ record r { tx = f r; released = true }
state_ticked s r t tx f same et etx = (λ j. record s { pause_threshold = et j; tx = etx j; released = true }) ∙ ap {A = SessionState} {B = SessionState} (λ x. record x { tx = f x; released = true }) same

-- outgoing streams reported, and moments of receivers were answered
spoke : (now : ℕ) (x : SessionState) → record x {
  tx = each (sender_after x.medias now (due_senders now x)) x.tx;
  feedback = x.feedback ++ sender_and_answers now x;
  moments = if some_reports x.medias (due_senders now x) x.tx then unanswered x.moments else x.moments;
} ≡ after_sender_reports now x
spoke now x = by (some_reports x.medias (due_senders now x) x.tx)
  where
    tx : List (ℕ × TxRecord)
    tx = each (sender_after x.medias now (due_senders now x)) x.tx

    by : (b : Bool) → record x {
      tx = tx;
      feedback = x.feedback ++ (sender_items now x ++ (if b then answers now (sender_ssrc x) x.moments else []));
      moments = if b then unanswered x.moments else x.moments;
    } ≡ after_answers now b (after_senders now x)
    by true =
        ap (λ (l : List Rtcp). record x { tx = tx; feedback = l; moments = unanswered x.moments })
        (sym (append_assoc x.feedback (sender_items now x) (answers now (sender_ssrc x) x.moments))
        ∙ ap (λ (own : ℕ). x.feedback ++ sender_items now x ++ answers now own x.moments) (sym (same_first x.medias now (due_senders now x) x.tx x.local_ssrc)))
    by false = ap (λ (l : List Rtcp). record x { tx = tx; feedback = x.feedback ++ l }) (append-nil (sender_items now x))

-- a tick spoke
pub state_spoken : (now : ℕ) (s r : SessionState) (t : ℕ) (tx : List (ℕ × TxRecord)) (items : List Rtcp) (last : ℕ) (moments : List ReceiverMoment)
    (incoming : SessionState → List Rtcp) (round : SessionState → ℕ) → s ≡ r → t ≡ s.pause_threshold
    → tx ≡ each (sender_after s.medias now (due_senders now s)) s.tx → items ≡ s.feedback ++ incoming s ++ sender_and_answers now s → last ≡ round s
    → moments ≡ (if some_reports s.medias (due_senders now s) s.tx then unanswered s.moments else s.moments)
    → record s { pause_threshold = t; tx = tx; feedback = items; last_round = last; moments = moments }
    ≡ after_sender_reports now (record r { feedback = r.feedback ++ incoming r; last_round = round r })
state_spoken now s r t tx items last moments incoming round same et etx is el em =
    (λ j. record s { pause_threshold = et j; tx = etx j; feedback = is j; last_round = el j; moments = em j })
    ∙ spoke now (record s { feedback = s.feedback ++ incoming s; last_round = round s })
    ∙ ap {A = SessionState} {B = SessionState} (λ x. after_sender_reports now (record x { feedback = x.feedback ++ incoming x; last_round = round x })) same
