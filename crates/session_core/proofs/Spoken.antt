-- When something is said in a tick, and what answers moments.
use Rattle.std.proofs.Common.{◌≡◌, ◌<◌, ℕ, Bool, true, false, List, [], ◌∷◌, ◌++◌, length, Option, Some, None, inl, inr, refl, sym, ap, subst, ◌∙◌, arith}
use Rattle.std.specs.Prelude.{◌||◌, ◌⊎◌, if◌then◌else◌}
use Rattle.std.specs.Option.{option_map, option_to_list}
use Rattle.std.specs.List.{AllByRecursion}
use Rattle.std.proofs.lemmas.List.{append-nil}
use Rattle.media_units.specs.declared.wallclock.Beginning.{Beginning}
use Rattle.rtcp_items.specs.declared.extended.ExtendedReport.{ExtendedReport as Extended}
use Rattle.rtcp_wire.specs.declared.packet.Rtcp.{Rtcp}
use Rattle.rtcp_wire.specs.declared.packet.Rtcp.TheVariants.{ExtendedReport}
use Rattle.report_core.specs.declared.moments.ReceiverMoment.{ReceiverMoment}
use Rattle.report_core.specs.Moments.{answer_of}
use Rattle.stream_core.specs.Reporting.{IsBrief, any_request, due_mids}
use Rattle.stream_core.specs.TxRecord.{TxRecord}
use Rattle.stream_core.specs.declared.payload_types.TypeRow.{TypeRow}
use Rattle.session_core.specs.Reports.{answers, due_senders, sender_and_answers, sender_items_with, sender_ssrc, some_reports}
use Rattle.session_core.specs.Rounds.{is_one, is_round, is_spoken}
use Rattle.session_core.specs.SessionRecord.{MediaRecord, SessionState, SessionView, SessionRecord}
use Rattle.session_core.proofs.Reported.{silent_all}
use Rattle.session_core.proofs.TickItems.{answers_brief}

or_true : (a : Bool) → (a || true) ≡ true
or_true true = refl
or_true false = refl

-- a list that is not empty
pub some_one : (l : List (List ℕ)) → (l ≡ [] → ⊥) → is_one l ≡ true
some_one [] not = absurd (not refl)
some_one (m ∷ ms) not = refl

spoken_by_round : (now : ℕ) (r : SessionRecord) → is_round now r ≡ true → is_spoken now r ≡ true
spoken_by_round now r is = ap (λ b. b || (any_request r.rx || (is_one (due_mids r.state.intervals now r.rx) || is_one (due_senders now r.state)))) is

spoken_by_request : (now : ℕ) (r : SessionRecord) → any_request r.rx ≡ true → is_spoken now r ≡ true
spoken_by_request now r some =
    ap (λ b. is_round now r || (b || (is_one (due_mids r.state.intervals now r.rx) || is_one (due_senders now r.state)))) some ∙ or_true (is_round now r)

spoken_by_incoming : (now : ℕ) (r : SessionRecord) → (due_mids r.state.intervals now r.rx ≡ [] → ⊥) → is_spoken now r ≡ true
spoken_by_incoming now r some =
    ap (λ b. is_round now r || (any_request r.rx || (b || is_one (due_senders now r.state)))) (some_one (due_mids r.state.intervals now r.rx) some)
    ∙ ap (λ b. is_round now r || b) (or_true (any_request r.rx)) ∙ or_true (is_round now r)

spoken_by_senders : (now : ℕ) (r : SessionRecord) → is_one (due_senders now r.state) ≡ true → is_spoken now r ≡ true
spoken_by_senders now r some =
    ap (λ b. is_round now r || (any_request r.rx || (is_one (due_mids r.state.intervals now r.rx) || b))) some
    ∙ ap (λ b. is_round now r || (any_request r.rx || b)) (or_true (is_one (due_mids r.state.intervals now r.rx)))
    ∙ ap (λ b. is_round now r || b) (or_true (any_request r.rx)) ∙ or_true (is_round now r)

-- by what outgoing streams say, a round, the report of an incoming stream, or what one asks for
pub spoken_by : (now : ℕ) (r : SessionRecord) (behind : ℕ) → (0 < behind → is_one (due_senders now r.state) ≡ true)
    → (0 < behind) ⊎ ((is_round now r ≡ true) ⊎ ((due_mids r.state.intervals now r.rx ≡ [] → ⊥) ⊎ (any_request r.rx ≡ true))) → is_spoken now r ≡ true
spoken_by now r behind due (inl some) = spoken_by_senders now r (due some)
spoken_by now r behind due (inr (inl is)) = spoken_by_round now r is
spoken_by now r behind due (inr (inr (inl some))) = spoken_by_incoming now r some
spoken_by now r behind due (inr (inr (inr some))) = spoken_by_request now r some

-- where no report of an outgoing stream is due, these say nothing
none_said : (types : List (ℕ × TypeRow)) (beginning : Beginning) (medias : List MediaRecord) (now : ℕ) (es : List (ℕ × TxRecord)) → sender_items_with types beginning medias now [] es ≡ []
none_said types beginning medias now [] = refl
none_said types beginning medias now (e ∷ es) = none_said types beginning medias now es

abbrev said_under : ℕ → SessionState → List (List ℕ) → Bool → List Rtcp
said_under now s mids some = sender_items_with s.types s.transport.beginning s.medias now mids s.tx ++ (if some then answers now (sender_ssrc s) s.moments else [])

nothing_said : (now : ℕ) (s : SessionState) → due_senders now s ≡ [] → sender_and_answers now s ≡ []
nothing_said now s none =
    ap (λ mids. said_under now s mids (some_reports s.medias mids s.tx)) none ∙ ap (said_under now s []) (silent_all s.medias s.tx)
    ∙ ap (λ (l : List Rtcp). l ++ []) (none_said s.types s.transport.beginning s.medias now s.tx)

pub due_where_said : (now : ℕ) (s : SessionState) (xs : List Rtcp) → xs ≡ sender_and_answers now s → 0 < length xs → is_one (due_senders now s) ≡ true
due_where_said now s xs is some =
    some_one (due_senders now s) (λ none. (let empty : length xs ≡ 0 = ap length (is ∙ nothing_said now s none) in absurd (omega arith)))

-- some moments are answered, or none
answered_items : (now sender : ℕ) (ms : List ReceiverMoment) (x : Extended) → answer_of sender now ms ≡ Some x → answers now sender ms ≡ ExtendedReport x ∷ []
answered_items now sender ms x some = ap (λ (o : Option Extended). option_to_list (option_map ExtendedReport o)) some

pub answer_brief : (now sender : ℕ) (ms : List ReceiverMoment) (x : Extended) → answer_of sender now ms ≡ Some x → IsBrief (ExtendedReport x)
answer_brief now sender ms x some = (subst (λ (l : List Rtcp). AllByRecursion IsBrief l) (answered_items now sender ms x some) (answers_brief now sender ms)).0

no_answers : (now sender : ℕ) (ms : List ReceiverMoment) → answer_of sender now ms ≡ None → answers now sender ms ≡ []
no_answers now sender ms none = ap (λ (o : Option Extended). option_to_list (option_map ExtendedReport o)) none

-- what outgoing streams say, where the reports of these media sections are due: no stream reports; some does, and no moment
-- waits; or some does, and some wait
module _ (now : ℕ) (s : SessionState) (mids : List (List ℕ)) (due : mids ≡ due_senders now s) where
  abbrev reports : List Rtcp
  reports = sender_items_with s.types s.transport.beginning s.medias now mids s.tx

  said_so : (b : Bool) (xs : List Rtcp) → some_reports s.medias mids s.tx ≡ b → xs ≡ said_under now s mids b → xs ≡ sender_and_answers now s
  said_so b xs some is = is ∙ ap (said_under now s mids) (sym some) ∙ ap (λ ms. said_under now s ms (some_reports s.medias ms s.tx)) due

  said_silent : (xs : List Rtcp) → some_reports s.medias mids s.tx ≡ false → xs ≡ reports → xs ≡ sender_and_answers now s
  said_silent xs none is = said_so false xs none (is ∙ sym (append-nil reports))

  said_alone : (xs : List Rtcp) → some_reports s.medias mids s.tx ≡ true → answer_of (sender_ssrc s) now s.moments ≡ None → xs ≡ reports → xs ≡ sender_and_answers now s
  said_alone xs some none is = said_so true xs some (is ∙ sym (append-nil reports) ∙ ap (λ (l : List Rtcp). reports ++ l) (sym (no_answers now (sender_ssrc s) s.moments none)))

  said_answering : (xs : List Rtcp) (x : Extended) → some_reports s.medias mids s.tx ≡ true → answer_of (sender_ssrc s) now s.moments ≡ Some x → xs ≡ reports ++ ExtendedReport x ∷ []
      → xs ≡ sender_and_answers now s
  said_answering xs x some answer is = said_so true xs some (is ∙ ap (λ (l : List Rtcp). reports ++ l) (sym (answered_items now (sender_ssrc s) s.moments x answer)))

-- the same of a session as it is seen, by the media sections that it told
module _ {W S : Type 0} (now : ℕ) (v w : SessionView W S) (same : v ≡ w) (mids : List (List ℕ)) (medias : List MediaRecord) (told : medias ≡ v.state.medias) where
  abbrev reports_in : List Rtcp
  reports_in = sender_items_with v.state.types v.state.transport.beginning medias now mids v.state.tx

  there : (xs : List Rtcp) → (mids ≡ due_senders now v.state → xs ≡ sender_and_answers now v.state) → mids ≡ due_senders now w.state → xs ≡ sender_and_answers now w.state
  there xs here = subst (λ (u : SessionView W S). mids ≡ due_senders now u.state → xs ≡ sender_and_answers now u.state) same here

  some_of : (b : Bool) → some_reports medias mids v.state.tx ≡ b → some_reports v.state.medias mids v.state.tx ≡ b
  some_of b is = ap (λ (ms : List MediaRecord). some_reports ms mids v.state.tx) (sym told) ∙ is

  reports_of : reports_in ≡ sender_items_with v.state.types v.state.transport.beginning v.state.medias now mids v.state.tx
  reports_of = ap (λ (ms : List MediaRecord). sender_items_with v.state.types v.state.transport.beginning ms now mids v.state.tx) told

  answer_in : (sender : ℕ) (o : Option Extended) → sender ≡ sender_ssrc w.state → answer_of sender now v.state.moments ≡ o → answer_of (sender_ssrc v.state) now v.state.moments ≡ o
  answer_in sender o own is = ap (λ n. answer_of n now v.state.moments) (ap (λ (u : SessionView W S). sender_ssrc u.state) same ∙ sym own) ∙ is

  pub some_seen : some_reports medias mids v.state.tx ≡ some_reports w.state.medias mids w.state.tx
  some_seen =
      ap (λ (ms : List MediaRecord). some_reports ms mids v.state.tx) told ∙ ap (λ (u : SessionView W S). some_reports u.state.medias mids u.state.tx) same

  pub silent_seen : (xs : List Rtcp) → some_reports medias mids v.state.tx ≡ false → xs ≡ reports_in → mids ≡ due_senders now w.state → xs ≡ sender_and_answers now w.state
  silent_seen xs none is = there xs (λ due. said_silent now v.state mids due xs (some_of false none) (is ∙ reports_of))

  pub alone_seen : (sender : ℕ) (xs : List Rtcp) → sender ≡ sender_ssrc w.state → some_reports medias mids v.state.tx ≡ true → answer_of sender now v.state.moments ≡ None → xs ≡ reports_in
      → mids ≡ due_senders now w.state → xs ≡ sender_and_answers now w.state
  alone_seen sender xs own some none is = there xs (λ due. said_alone now v.state mids due xs (some_of true some) (answer_in sender None own none) (is ∙ reports_of))

  pub answering_seen : (sender : ℕ) (xs : List Rtcp) (x : Extended) → sender ≡ sender_ssrc w.state → some_reports medias mids v.state.tx ≡ true → answer_of sender now v.state.moments ≡ Some x
      → xs ≡ reports_in ++ ExtendedReport x ∷ [] → mids ≡ due_senders now w.state → xs ≡ sender_and_answers now w.state
  answering_seen sender xs x own some answer is =
      there xs (λ due. said_answering now v.state mids due xs x (some_of true some) (answer_in sender (Some x) own answer) (is ∙ ap (λ (l : List Rtcp). l ++ ExtendedReport x ∷ []) reports_of))
