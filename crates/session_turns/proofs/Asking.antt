-- What one stream sends again after RTCP that came.
use Rattle.std.proofs.Common.{◌≡◌, inl, inr, ℕ, Bool, false, List, [], ◌++◌, Option, Some, None, refl, sym, ap, ◌∙◌, subst, append_assoc}
use Rattle.std.specs.Prelude.{◌==◌, if◌then◌else◌, option_and_then}
use Rattle.std.specs.List.{flat_map}
use Rattle.std.proofs.lemmas.Bool.{eqb-true}
use Rattle.std.proofs.lemmas.List.{append-nil}
use Rattle.std.proofs.lemmas.List.Concat.{flat_map-append}
use Rattle.resend_core.specs.ResendStore.{Past, last_position}
use Rattle.rtp_base.specs.NackEntry.{named_by}
use Rattle.rtp_base.specs.declared.nack_entry.NackEntry.{NackEntry}
use Rattle.rtcp_wire.specs.declared.rtcp_fb.RtcpFb.{RtcpFb}
use Rattle.rtcp_wire.specs.declared.rtcp_fb.RtcpFb.TheVariants.{SenderInfo, ReceptionReport, SourceDescription, Goodbye, Rrtr, DlrrItem, Nack, Pli, Fir, Twcc, Remb, AppSpecificFeedback}
use Rattle.rtx_core.specs.Resends.{Asks, none as asks_nothing, gone, held, asked_for, numbers_of}
use Rattle.rtx_core.specs.declared.resend.Resend.{Resend}
use Rattle.stream_core.specs.Repairing.{SentPacket, RepairsRecord, size_of_sent, repairs_of}
use Rattle.stream_core.specs.StreamsRecord.{Asked, no_repairs, asked}
use Rattle.stream_core.specs.Tables.{value_under}
use Rattle.stream_core.specs.TxRecord.{TxRecord}
use Rattle.session_core.specs.Hearing.{AskedBy, by_nack, by_none, AskedByAll, asked_none, asked_next}
use Rattle.run_model.specs.Sending.{named_on}
use Rattle.session_turns.proofs.Keys.{value_changed_here, value_changed_other}
use Rattle.session_turns.proofs.Tests.{tested}

-- more is asked for
abbrev pub with_more : List Resend → RepairsRecord → RepairsRecord
with_more more q = record q { state = asked_for more q.state }

-- what a stream sends again, before and after NACKs with these entries came for it
abbrev pub Heard : ℕ → List NackEntry → Option RepairsRecord → Option RepairsRecord → Type 0
Heard now entries None p = p ≡ None
Heard now entries (Some q) p = (more : List Resend) × Asks size_of_sent now q.cache (numbers_of (last_position q.cache.events) entries) more × (p ≡ Some (with_more more q))

numbers_nil : (last : Option ℕ) → numbers_of last [] ≡ []
numbers_nil None = refl
numbers_nil (Some n) = refl

numbers_append : (last : Option ℕ) (xs ys : List NackEntry) → numbers_of last (xs ++ ys) ≡ numbers_of last xs ++ numbers_of last ys
numbers_append None xs ys = refl
numbers_append (Some n) xs ys = flat_map-append (named_by (Some n)) xs ys

asks_append : {now : ℕ} {past : Past SentPacket} (ns ms : List ℕ) (rs qs : List Resend) → Asks size_of_sent now past ns rs → Asks size_of_sent now past ms qs
    → Asks size_of_sent now past (ns ++ ms) (rs ++ qs)
asks_append _ ms _ qs asks_nothing b = b
asks_append _ ms rs qs (gone n ns _ lost a) b = gone n (ns ++ ms) (rs ++ qs) lost (asks_append ns ms rs qs a b)
asks_append _ ms _ qs (held n ns rs p there a) b = held n (ns ++ ms) (rs ++ qs) p there (asks_append ns ms rs qs a b)

heard_nil : (now : ℕ) (o : Option RepairsRecord) → Heard now [] o o
heard_nil now None = refl
heard_nil now (Some q) = (
  [],
  subst (λ (ns : List ℕ). Asks size_of_sent now q.cache ns []) (sym (numbers_nil (last_position q.cache.events))) asks_nothing,
  ap (λ (l : List Resend). Some (record q { state = record q.state { resends = l } })) (sym (append-nil q.state.resends)),
)

heard_append : (now : ℕ) (xs ys : List NackEntry) (o p u : Option RepairsRecord) → Heard now xs o p → Heard now ys p u → Heard now (xs ++ ys) o u
heard_append now xs ys None p u a b = subst (λ (v : Option RepairsRecord). Heard now ys v u) a b
heard_append now xs ys (Some q) p u a b =
    let c : Heard now ys (Some (with_more a.0 q)) u = subst (λ (v : Option RepairsRecord). Heard now ys v u) a.2 b in (
      a.0 ++ c.0,
      subst (λ (ns : List ℕ). Asks size_of_sent now q.cache ns (a.0 ++ c.0)) (sym (numbers_append (last_position q.cache.events) xs ys))
          (asks_append (numbers_of (last_position q.cache.events) xs) (numbers_of (last_position q.cache.events) ys) a.0 c.0 a.1 c.1),
      c.2 ∙ ap (λ (l : List Resend). Some (record q { state = record q.state { resends = l } })) (append_assoc q.state.resends a.0 c.0),
    )

heard_here : {now : ℕ} (k : ℕ) (entries : List NackEntry) (qs after : List (ℕ × RepairsRecord)) → Asked now k entries qs after → Heard now entries (value_under k qs) (value_under k after)
heard_here {now} k entries qs _ (no_repairs none) = subst (λ (o : Option RepairsRecord). Heard now entries o o) (sym none) refl
heard_here {now} k entries qs after (asked q more there asks) =
    subst (λ (o : Option RepairsRecord). Heard now entries o (value_under k after)) (sym there) (more, asks, value_changed_here k (λ old. with_more more q) qs q there)

heard_other : {now : ℕ} (j k : ℕ) (entries : List NackEntry) (qs after : List (ℕ × RepairsRecord)) → (j == k) ≡ false → Asked now j entries qs after
    → Heard now [] (value_under k qs) (value_under k after)
heard_other {now} j k entries qs _ other (no_repairs none) = heard_nil now (value_under k qs)
heard_other {now} j k entries qs after other (asked q more there asks) =
    subst (Heard now [] (value_under k qs)) (sym (value_changed_other j k (λ old. with_more more q) qs other)) (heard_nil now (value_under k qs))

heard_nack : {now : ℕ} (j k : ℕ) (entries : List NackEntry) (qs after : List (ℕ × RepairsRecord)) → Asked now j entries qs after
    → Heard now (named_on k (Nack j entries)) (value_under k qs) (value_under k after)
heard_nack {now} j k entries qs after h =
    elim (tested (j == k)) [
      | inl t ↦
          let here : Asked now k entries qs after = subst (λ (n : ℕ). Asked now n entries qs after) (eqb-true j k t) h in
          subst (λ (b : Bool). Heard now (if b then entries else []) (value_under k qs) (value_under k after)) (sym t) (heard_here k entries qs after here)
      | inr t ↦ subst (λ (b : Bool). Heard now (if b then entries else []) (value_under k qs) (value_under k after)) (sym t) (heard_other j k entries qs after t h)
    ]

named_none : (k : ℕ) (f : RtcpFb) → ((ssrc : ℕ) (entries : List NackEntry) → f ≡ Nack ssrc entries → ⊥) → named_on k f ≡ []
named_none k (Nack ssrc entries) not = absurd (not ssrc entries refl)
named_none k (SenderInfo a) not = refl
named_none k (ReceptionReport a) not = refl
named_none k (SourceDescription a) not = refl
named_none k (Goodbye a) not = refl
named_none k (Rrtr a b) not = refl
named_none k (DlrrItem a) not = refl
named_none k (Pli a) not = refl
named_none k (Fir a) not = refl
named_none k (Twcc a) not = refl
named_none k (Remb a b) not = refl
named_none k (AppSpecificFeedback a) not = refl

heard_by : {now : ℕ} (k : ℕ) (f : RtcpFb) (qs after : List (ℕ × RepairsRecord)) → AskedBy now f qs after → Heard now (named_on k f) (value_under k qs) (value_under k after)
heard_by {now} k f qs _ (by_nack ssrc entries after is named) =
    subst (λ (g : RtcpFb). Heard now (named_on k g) (value_under k qs) (value_under k after)) (sym is) (heard_nack ssrc k entries qs after named)
heard_by {now} k f qs _ (by_none not) =
    subst (λ (l : List NackEntry). Heard now l (value_under k qs) (value_under k qs)) (sym (named_none k f not)) (heard_nil now (value_under k qs))

heard_all : {now : ℕ} (k : ℕ) (fs : List RtcpFb) (qs after : List (ℕ × RepairsRecord)) → AskedByAll now fs qs after
    → Heard now (flat_map (named_on k) fs) (value_under k qs) (value_under k after)
heard_all {now} k _ _ _ (asked_none qs) = heard_nil now (value_under k qs)
heard_all {now} k _ _ _ (asked_next f fs qs between after one rest) =
    heard_append now (named_on k f) (flat_map (named_on k) fs) (value_under k qs) (value_under k between) (value_under k after) (heard_by k f qs between one) (heard_all k fs between after rest)

-- of a stream
heard_with : (now : ℕ) (entries : List NackEntry) (ssrc : ℕ) (qs after : List (ℕ × RepairsRecord)) → Heard now entries (value_under ssrc qs) (value_under ssrc after) → (rtx : Option ℕ)
    → Heard now entries (option_and_then (λ x. value_under ssrc qs) rtx) (option_and_then (λ x. value_under ssrc after) rtx)
heard_with now entries ssrc qs after h None = refl
heard_with now entries ssrc qs after h (Some x) = h

pub heard_on : {now : ℕ} (x : TxRecord) (fs : List RtcpFb) (qs after : List (ℕ × RepairsRecord)) → AskedByAll now fs qs after
    → Heard now (flat_map (named_on x.ssrc) fs) (repairs_of x qs) (repairs_of x after)
heard_on {now} x fs qs after h = heard_with now (flat_map (named_on x.ssrc) fs) x.ssrc qs after (heard_all x.ssrc fs qs after h) x.rtx
