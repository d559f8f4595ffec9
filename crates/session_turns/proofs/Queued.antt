-- What a stream sends again is what the plain stream does.
use Rattle.std.proofs.Common.{◌≡◌, inl, inr, ℕ, ◌+◌, ◌<◌, ◌≤◌, min, map, List, [], ◌∷◌, ◌++◌, Option, Some, None, refl, sym, ap, ◌∙◌, subst}
use Rattle.std.specs.Option.{option_map}
use Rattle.std.proofs.lemmas.List.{map-append}
use Rattle.std.proofs.lemmas.Option.{none-some, some_pair_parts}
use Rattle.resend_core.specs.ResendStore.{Event as Stored, pushed, evicted, Past, latter, last_under, last_position, stored_at, MayGo, HeldAs, size_of}
use Rattle.rtp_base.specs.declared.nack_entry.NackEntry.{NackEntry}
use Rattle.rtx_core.specs.Resends.{Asks, none as asks_nothing, gone as asks_gone, held as asks_held, numbers_of}
use Rattle.rtx_core.specs.declared.resend.Resend.{Resend}
use Rattle.stream_core.specs.declared.payload_types.TypeRow.{TypeRow}
use Rattle.stream_core.specs.Repairing.{SentPacket, RepairsRecord, size_of_sent}
use Rattle.media_model.specs.declared.entry.Write.{Write}
use Rattle.run_model.specs.Events.{Outgoing}
use Rattle.run_model.specs.Sending.{wanted}
use Rattle.run_model.specs.TxPlay.{TxRecord, past_of, Queues, none, held, missing}
use Rattle.session_turns.specs.Mirrors.{sent_packet, sent_event, MirrorsRepairs}
use Rattle.session_turns.proofs.Asking.{Heard}
use Rattle.session_turns.proofs.Later.{cap_later}
use Rattle.session_turns.proofs.Held.{sent_of, last_map, latest_map, greatest_map, rising_map}

-- the events of a cache are those of the plain one, each with its packet

module _ (rows : List (ℕ × TypeRow)) where
  pub position_mapped : (es : List (Stored Write)) → last_position (map (sent_event rows) es) ≡ last_position es
  position_mapped [] = refl
  position_mapped (pushed q t w stored ∷ es) = ap (latter (stored_at (pushed q t w stored))) (position_mapped es)
  position_mapped (evicted t ∷ es) = ap (latter None) (position_mapped es)

  module _ (L : Outgoing) where
    abbrev sent_past : List (Stored Write) → Past SentPacket
    sent_past es = record { initial = min L.packets 10; age = L.age; greatest = L.packets; events = map (sent_event rows) es }

    may_go : (es : List (Stored Write)) (n t : ℕ) → MayGo (sent_past es) n t → MayGo (past_of L es) n t
    may_go es n t (inl old) = inl (subst (λ (m : ℕ). t + L.age < m) (latest_map rows es) old)
    may_go es n t (inr low) = inr (subst (λ (m : ℕ). n + size_of (past_of L es) ≤ m) (greatest_map rows es) low)

    gone : (es : List (Stored Write)) (n : ℕ) → HeldAs (sent_past es) n None → HeldAs (past_of L es) n None
    gone es n h t w last = may_go es n t (h t (sent_packet rows t w) (last_map rows n es ∙ ap (option_map (sent_of rows)) last))

    held_so : (es : List (Stored Write)) (n : ℕ) (p : SentPacket) → HeldAs (sent_past es) n (Some p) → (w : Write) × HeldAs (past_of L es) n (Some w)
    held_so es n p h = go (last_under n es) refl
      where
        go : (o : Option (ℕ × Write)) → last_under n es ≡ o → (w : Write) × HeldAs (past_of L es) n (Some w)
        go None is = absurd (none-some (h.0, p) (sym (last_map rows n es ∙ ap (option_map (sent_of rows)) is) ∙ h.1))
        go (Some x) is =
            let same = some_pair_parts x.0 h.0 (sent_packet rows x.0 x.1) p (sym (last_map rows n es ∙ ap (option_map (sent_of rows)) is) ∙ h.1) in (
              x.1,
              (
                h.0,
                is ∙ ap (λ (t : ℕ). Some (t, x.1)) same.0,
                λ rising. subst (λ (m : ℕ). m ≤ h.0 + L.age) (latest_map rows es) (h.2 (rising_map rows es rising)),
              ),
            )

    queues_so : {now : ℕ} (es : List (Stored Write)) (ns : List ℕ) (rs : List Resend) → Asks size_of_sent now (sent_past es) ns rs
        → Queues (past_of L es) ns (map (λ (r : Resend). r.seq_no) rs)
    queues_so es _ _ asks_nothing = none
    queues_so es _ rs (asks_gone n ns _ lost more) = missing n (gone es n lost) (queues_so es ns rs more)
    queues_so es _ _ (asks_held n ns rs p there more) = let w = held_so es n p there in held n w.0 w.1 (queues_so es ns rs more)

-- what NACKs with these entries queue on a plain stream, and that the record mirrors it then
pub record Queued (rows : List (ℕ × TypeRow)) (time : ℕ) (L : Outgoing) (t : TxRecord) (entries : List NackEntry) (o : Option RepairsRecord) : Type 0 where
  pub queued : List ℕ
  pub queues : Queues (past_of L t.store) (wanted (last_position t.store) entries) queued
  pub again : MirrorsRepairs rows time L (record t { resends = t.resends ++ queued }) o

pub queued_of : (rows : List (ℕ × TypeRow)) (now time : ℕ) → now ≤ time → (L : Outgoing) (t : TxRecord) (entries : List NackEntry) (o p : Option RepairsRecord)
    → MirrorsRepairs rows now L t o → Heard time entries o p → Queued rows time L t entries p
queued_of rows now time le L t entries None p m h =
    subst (Queued rows time L t entries) (sym h) (record {
      queued = [];
      queues = subst (λ (es : List (Stored Write)). Queues (past_of L es) (wanted (last_position es) entries) []) (sym m.store) none;
      again = record { has = m.has; resends = ap (λ (l : List ℕ). l ++ []) m.resends; store = m.store };
    })
queued_of rows now time le L t entries (Some q) p m h =
    let more : List Resend = h.0 in
    let queued : List ℕ = map (λ (r : Resend). r.seq_no) h.0 in
    let past : q.cache ≡ sent_past rows L t.store = λ i. record { initial = m.initial i; age = m.age i; greatest = m.greatest_is i; events = m.events i } in
    let asks : Asks size_of_sent time (sent_past rows L t.store) (numbers_of (last_position (map (sent_event rows) t.store)) entries) h.0 =
    subst (λ (c : Past SentPacket). Asks size_of_sent time c (numbers_of (last_position c.events) entries) h.0) past h.1 in
    subst (Queued rows time L t entries) (sym h.2) (record {
      queued = queued;
      queues = queues_so rows L t.store (numbers_of (last_position t.store) entries) h.0
          (subst (λ (o : Option ℕ). Asks size_of_sent time (sent_past rows L t.store) (numbers_of o entries) h.0) (position_mapped rows t.store) asks);
      again = record {
        has = m.has;
        resends = map-append (λ (r : Resend). r.seq_no) q.state.resends h.0 ∙ ap (λ (l : List ℕ). l ++ queued) m.resends;
        next = m.next;
        cap = cap_later rows now time le L t t.written t.queue (t.resends ++ queued) q.state.cap m.cap;
        initial = m.initial;
        age = m.age;
        greatest_is = m.greatest_is;
        events = m.events;
      };
    })
