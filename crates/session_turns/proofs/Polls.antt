-- One poll of a stream, as polls of the plain stream that it mirrors.
use Rattle.std.proofs.Common.{◌≡◌, ◌⊎◌, inl, inr, ℕ, ◌+◌, ◌/◌, ◌%◌, ◌<◌, ◌^◌, Bool, true, false, List, [], ◌∷◌, ◌++◌, length, map, Option, Some, None, refl, sym, ap, ◌∙◌, subst, arith, append_assoc}
use Rattle.std.specs.Prelude.{◌==◌, ◌&&◌, not, is_some, unwrap_or, if◌then◌else◌}
use Rattle.std.specs.List.{flat_map, AllByRecursion}
use Rattle.std.specs.Option.{option_map}
use Rattle.std.proofs.lemmas.Option.{same_Some}
use Rattle.std.proofs.lemmas.List.{map-append}
use Rattle.std.proofs.lemmas.Grind.{flat_map-append}
use Rattle.resend_core.specs.ResendStore.{Event as Stored, pushed, evicted, Past, HeldAs}
use Rattle.rtp_wire.specs.declared.extension.ExtensionMap.{ExtensionMap}
use Rattle.rtp_wire.specs.HeaderLaws.{WrittenIsReadAgain}
use Rattle.rtx_core.specs.Ratio.{CapRecord, after_reading, with_resent}
use Rattle.rtx_core.specs.Resends.{ResendState, after_first, after_next, cap_after, is_capped, cached, FirstHeld, none_held, passed, found, IsNext}
use Rattle.rtx_core.specs.declared.resend.Resend.{Resend}
use Rattle.srtp_core.specs.Cipher.{CipherMeaning}
use Rattle.srtp_core.specs.Contexts.{SrtpState}
use Rattle.stream_core.specs.declared.packet.RtpPacket.{RtpPacket}
use Rattle.stream_core.specs.declared.payload_types.TypeRow.{TypeRow}
use Rattle.stream_core.specs.declared.reports.TxReports.{TxReports}
use Rattle.stream_core.specs.declared.stream_tx.PacketReceipt.{PacketReceipt}
use Rattle.stream_core.specs.declared.transport.Transport.{Transport}
use Rattle.stream_core.specs.Arrivals.{with_repair}
use Rattle.stream_core.specs.Queue.{next_of, rest_of}
use Rattle.stream_core.specs.Sealing.{sealed_values}
use Rattle.stream_core.specs.Repairing.{SentPacket, RepairsRecord, size_of_sent, rtx_type_of, repair_values, repair_of, Repairs, repaired, none_asked, Keeps, kept, counted, Polls, without, again, first, nothing, IsUsedUp}
use Rattle.stream_core.specs.TxRecord.{TxRecord as StreamTx, receipt_of, polled, after_poll, after_resend}
use Rattle.session_core.specs.Sending.{has_mid}
use Rattle.session_core.specs.SessionRecord.{MediaRecord}
use Rattle.media_model.specs.declared.entry.Write.{Write}
use Rattle.run_model.specs.Events.{Plain, Event, sealed, Types, Outgoing}
use Rattle.run_model.specs.Sending.{is_some as plain_some, two_bytes, sending_of, repair_of as repair_plain}
use Rattle.run_model.specs.Seals.{Sealing}
use Rattle.run_model.specs.TxPlay.{TxRecord, past_of, Caches, ignored, stored, Polls as PlainPolls, drops, misses, resends, sends, Serves, rests, polls, IsDue}
use Rattle.session_turns.specs.Reading.{types_in}
use Rattle.session_turns.specs.Mirrors.{IsGiven, IsKept, packet_at, sent_packet, sent_event, write_in, SendsNothingAgain, IsWide}
use Rattle.session_turns.proofs.Held.{Same, gone, holds, must_store, last_in}
use Rattle.session_turns.proofs.Caps.{MirrorsMid, sent_mirrors, resent_mirrors, read_once, met_mirrors, uncapped_mirrors}
use Rattle.session_turns.proofs.Wires.{IsRead, seal, event_given, bytes_given, event_is, seal_is, is_read}
use Rattle.session_turns.proofs.Asked.{suc_asked, numbers_in, no_numbers}
use Rattle.session_turns.proofs.Tests.{tested}

-- what a stream sends again, in the midst of a drain
pub record MidRepairs (rows : List (ℕ × TypeRow)) (now : ℕ) (L : Outgoing) (t : TxRecord) (q : RepairsRecord) : Type 0 where
  pub has : is_some L.rtx ≡ true
  pub resends : numbers_in q.state.resends ≡ t.resends
  pub next : q.state.next_seq_no ≡ t.next_rtx
  pub cap : MirrorsMid now L.cap t.sent t.resent t.reading (cap_after now q.state)
  pub same : Same rows L t.store q.cache

abbrev pub MirrorsAgain : List (ℕ × TypeRow) → ℕ → Outgoing → TxRecord → Option RepairsRecord → Type 0
MirrorsAgain rows now L t None = SendsNothingAgain L t
MirrorsAgain rows now L t (Some q) = MidRepairs rows now L t q

-- an outgoing stream, in the midst of a drain
pub record Mid (rows : List (ℕ × TypeRow)) (medias : List MediaRecord) (now : ℕ) (q : Option RepairsRecord) (key : ℕ) (x : StreamTx) (L : Outgoing) (t : TxRecord) : Type 0 where
  pub key_is : key ≡ L.ssrc
  pub ssrc : x.ssrc ≡ L.ssrc
  pub rtx : x.rtx ≡ L.rtx
  pub mid : has_mid x.mid medias ≡ true
  pub queue : x.queue ≡ map (packet_at (Some now)) t.queue
  pub given : AllByRecursion (IsGiven L.ssrc) t.queue
  pub cached : AllByRecursion (IsKept rows L.ssrc) (flat_map write_in t.store)
  pub again : MirrorsAgain rows now L t q

-- polls of a plain stream, one after another
pub chain_append : {T : Types} {L : Outgoing} {S : Sealing} {now : ℕ} {t u v : TxRecord} {events more : List Event} → Serves T L S now t u events → Serves T L S now u v more → Serves T L S now t v (events ++ more)
chain_append rests rest = rest
chain_append {T} {L} {S} {now} {v = v} {more = more} (polls {t = t} {events = these} {more = those} one others) rest =
    subst (λ (l : List Event). Serves T L S now t v l) (sym (append_assoc these those more)) (polls one (chain_append others rest))

-- the packet at the front
pub record Front (now : ℕ) (x : StreamTx) (t : TxRecord) : Type 0 where
  pub write : Write
  pub behind : List Write
  pub is : t.queue ≡ write ∷ behind
  pub next : next_of x.queue ≡ Some (packet_at (Some now) write)
  pub rest : rest_of x.queue ≡ map (packet_at (Some now)) behind

-- or there is none
pub record NoFront (now : ℕ) (x : StreamTx) (t : TxRecord) : Type 0 where
  pub none : t.queue ≡ []
  pub next : next_of x.queue ≡ None
  pub rest : rest_of x.queue ≡ map (packet_at (Some now)) t.queue

pub front_of : (now : ℕ) (x : StreamTx) (t : TxRecord) → x.queue ≡ map (packet_at (Some now)) t.queue → NoFront now x t ⊎ Front now x t
front_of now x t e = go t.queue refl
  where
    go : (ws : List Write) → t.queue ≡ ws → NoFront now x t ⊎ Front now x t
    go [] is =
        let q : x.queue ≡ [] = e ∙ ap (map (packet_at (Some now))) is in
        inl (record { none = is; next = ap next_of q; rest = ap rest_of q ∙ sym (ap (map (packet_at (Some now))) is) })
    go (w ∷ ws) is =
        let q : x.queue ≡ packet_at (Some now) w ∷ map (packet_at (Some now)) ws = e ∙ ap (map (packet_at (Some now))) is in
        inr (record { write = w; behind = ws; is = is; next = ap next_of q; rest = ap rest_of q })

some_of : {X : Type 0} (o : Option X) → is_some o ≡ true → (x : X) × (o ≡ Some x)
some_of None h = absurd cc
some_of (Some x) h = (x, refl)

asked_of : {P : Type 0} (past : Past P) (rs : List Resend) (o : Option (P × List Resend)) (f : P × List Resend) → FirstHeld past rs o → o ≡ Some f → (length rs == 0) ≡ false
asked_of past _ _ f none_held e = absurd cc
asked_of past _ _ f (passed r rs o h more) e = suc_asked (length rs)
asked_of past _ _ f (found r rs p h) e = suc_asked (length rs)

-- the cap, where something is asked for and where nothing is
module _ (now : ℕ) where
  cap_none : (s : ResendState) → s.resends ≡ [] → cap_after now s ≡ s.cap
  cap_none s e = ap (λ (rs : List Resend). if length rs == 0 then s.cap else option_map (after_reading now) s.cap) e

  cap_some : (s : ResendState) → (length s.resends == 0) ≡ false → cap_after now s ≡ option_map (after_reading now) s.cap
  cap_some s e = ap (λ (b : Bool). if b then s.cap else option_map (after_reading now) s.cap) e

  cap_again : (rest : List Resend) (n bytes : ℕ) (s : ResendState) → (length s.resends == 0) ≡ false
      → cap_after now (record { resends = rest; next_seq_no = n; cap = option_map (with_resent now bytes) (cap_after now s) }) ≡ option_map (with_resent now bytes) (cap_after now s)
  cap_again rest n bytes s e =
      let c : Option CapRecord = option_map (with_resent now bytes) (cap_after now s) in
      let read = cap_some s e in
      let stays : option_map (after_reading now) c ≡ c =
      ap (λ (o : Option CapRecord). option_map (after_reading now) (option_map (with_resent now bytes) o)) read
      ∙ read_once now bytes s.cap
      ∙ sym (ap (option_map (with_resent now bytes)) read) in
      elim (length rest == 0) as (λ b. (if b then c else option_map (after_reading now) c) ≡ c) [ true ↦ refl | false ↦ stays ]

found_is : {F : Type 0} (b : Bool) (f : Option F) (g : F) → Some g ≡ (if b then None else f) → f ≡ Some g
found_is true f g e = absurd cc
found_is false f g e = sym e

not_capped : {F : Type 0} (b : Bool) (f : Option F) (g : F) → Some g ≡ (if b then None else f) → b ≡ false
not_capped true f g e = absurd cc
not_capped false f g e = refl

kept_is : (b : Bool) (o m : Option ℕ) (r : ℕ) → (if b then o else None) ≡ Some r → is_some m ≡ true → (b && (plain_some o && plain_some m)) ≡ true
kept_is true None m r e h = absurd cc
kept_is true (Some x) None r e h = absurd cc
kept_is true (Some x) (Some y) r e h = refl
kept_is false o m r e h = absurd cc

kept_type : (b : Bool) (o : Option ℕ) (r : ℕ) → (if b then o else None) ≡ Some r → o ≡ Some r
kept_type true o r e = e
kept_type false o r e = absurd cc

not_kept : (b : Bool) (o m : Option ℕ) → (if b then o else None) ≡ None → (b && (plain_some o && plain_some m)) ≡ false
not_kept true None m e = refl
not_kept true (Some x) m e = absurd cc
not_kept false o m e = refl

no_repairs_kept : (b c : Bool) → (b && (c && false)) ≡ false
no_repairs_kept true true = refl
no_repairs_kept true false = refl
no_repairs_kept false c = refl

all_push : {X : Type 0} (P : X → Type 0) (xs : List X) (y : X) → AllByRecursion P xs → P y → AllByRecursion P (xs ++ y ∷ [])
all_push P [] y h k = (k, tt)
all_push P (x ∷ xs) y h k = (h.0, all_push P xs y h.1 k)

module _ (cipher : CipherMeaning) (own : SrtpState) (exts : ExtensionMap) (read_again : WrittenIsReadAgain) (rows : List (ℕ × TypeRow)) (medias : List MediaRecord) (now : ℕ) where
  abbrev pub types : Types
  types = types_in rows

  abbrev pub sealing : Sealing
  sealing = seal cipher own exts

  abbrev pub events_given : Option PacketReceipt → List Event
  events_given None = []
  events_given (Some p) = event_given cipher own exts p ∷ []

  -- a poll that gives this is polls of the plain stream
  pub record Polled (key : ℕ) (after : StreamTx) (L : Outgoing) (t : TxRecord) (q : Option RepairsRecord) (o : Option PacketReceipt) : Type 0 where
    pub plain : TxRecord
    pub chain : Serves types L sealing now t plain (events_given o)
    pub mid : Mid rows medias now q key after L plain

  -- after polls that give nothing a repair is due, and no number is left for it
  pub record UsedUp (L : Outgoing) (t : TxRecord) (ssrc : ℕ) : Type 0 where
    pub plain : TxRecord
    pub chain : Serves types L sealing now t plain []
    pub rtx : L.rtx ≡ Some ssrc
    pub next : plain.next_rtx ≡ 2 ^ 48
    pub due : IsDue L plain

  module _ (L : Outgoing) where
    -- resends that are not held go by
    record Found (past : Past SentPacket) (t : TxRecord) (f : SentPacket × List Resend) : Type 0 where
      number : ℕ
      chain : Serves types L sealing now t (record t { resends = number ∷ numbers_in f.1 }) []
      held : HeldAs past number (Some f.0)

    abbrev PassedTo : Past SentPacket → TxRecord → Option (SentPacket × List Resend) → Type 0
    PassedTo past t None = Serves types L sealing now t (record t { resends = [] }) []
    PassedTo past t (Some f) = Found past t f

    misses_more : (past : Past SentPacket) (t : TxRecord) (rest : List ℕ) (o : Option (SentPacket × List Resend)) → PlainPolls types L sealing now t (record t { resends = rest }) []
        → PassedTo past (record t { resends = rest }) o → PassedTo past t o
    misses_more past t rest None miss more = polls miss more
    misses_more past t rest (Some f) miss more = record { number = more.number; chain = polls miss more.chain; held = more.held }

    same_asked : (t : TxRecord) (ns : List ℕ) → ns ≡ t.resends → Serves types L sealing now t (record t { resends = ns }) []
    same_asked t ns e = subst (λ (l : List ℕ). Serves types L sealing now t (record t { resends = l }) []) (sym e) rests

    passes : (past : Past SentPacket) (rs : List Resend) (o : Option (SentPacket × List Resend)) (t : TxRecord) → FirstHeld past rs o → Same rows L t.store past → numbers_in rs ≡ t.resends → PassedTo past t o
    passes past _ _ t none_held s e = same_asked t [] e
    passes past _ _ t (passed r rs o h more) s e =
        misses_more past t (numbers_in rs) o (misses r.seq_no (numbers_in rs) (sym e) (gone rows L t.store past s r.seq_no h)) (passes past rs o (record t { resends = numbers_in rs }) more s refl)
    passes past _ _ t (found r rs p h) s e = record { number = r.seq_no; chain = same_asked t (r.seq_no ∷ numbers_in rs) e; held = h }

    -- the cap is met: all go
    drops_all : (t : TxRecord) (rs : List Resend) (cap : Option CapRecord) → numbers_in rs ≡ t.resends
        → MirrorsMid now L.cap t.sent t.resent t.reading (if length rs == 0 then cap else option_map (after_reading now) cap) → is_capped now cap ≡ true
        → Serves types L sealing now t (record t { resends = [] }) []
    drops_all t [] cap e m capped = same_asked t [] e
    drops_all t (r ∷ rs) cap e m capped =
        let read = subst (λ (b : Bool). MirrorsMid now L.cap t.sent t.resent t.reading (if b then cap else option_map (after_reading now) cap)) (suc_asked (length rs)) m in
        polls (drops (met_mirrors now L.cap t.sent t.resent t.reading cap read capped)) rests

    goes_none : (t : TxRecord) (q : RepairsRecord) → MidRepairs rows now L t q → IsNext now q None → Serves types L sealing now t (record t { resends = [] }) []
    goes_none t q m next =
        elim (tested (is_capped now q.state.cap)) [
          | inl capped ↦ drops_all t q.state.resends q.state.cap m.resends m.cap capped
          | inr not ↦
              let is : None ≡ next.0 = next.2 ∙ ap (λ (b : Bool). if b then None else next.0) not in
              subst (PassedTo q.cache t) (sym is) (passes q.cache q.state.resends next.0 t next.1 m.same m.resends)
        ]

    abbrev none_left : RepairsRecord → RepairsRecord
    none_left q = record q { state = after_next now size_of_sent None q.state }

    repairs_none : (t : TxRecord) (q : RepairsRecord) → MidRepairs rows now L t q → MidRepairs rows now L (record t { resends = [] }) (none_left q)
    repairs_none t q m = record { has = m.has; resends = refl; next = m.next; cap = m.cap; same = m.same }

    module _ (key : ℕ) (x : StreamTx) (t : TxRecord) where
      none_mirrors : (q : RepairsRecord) → Mid rows medias now (Some q) key x L t → Mid rows medias now (Some (none_left q)) key x L (record t { resends = [] })
      none_mirrors q m = record {
        key_is = m.key_is;
        ssrc = m.ssrc;
        rtx = m.rtx;
        mid = m.mid;
        queue = m.queue;
        given = m.given;
        cached = m.cached;
        again = repairs_none t q m.again;
      }

      -- where no number is left for what is to be sent again, the plain stream has none for a number that is asked for and held
      pub used_up_mirrors : (q : RepairsRecord) → Mid rows medias now (Some q) key x L t → (ssrc : ℕ) → x.rtx ≡ Some ssrc → IsUsedUp now q → UsedUp L t ssrc
      used_up_mirrors q m ssrc has up =
          let next = up.2 in
          let is : next.0 ≡ Some (up.0, up.1) = found_is (is_capped now q.state.cap) next.0 (up.0, up.1) next.2 in
          let f : Found q.cache t (up.0, up.1) = subst (PassedTo q.cache t) is (passes q.cache q.state.resends next.0 t next.1 m.again.same m.again.resends) in
          let h = holds rows L t.store q.cache m.again.same f.number up.0 f.held in
          let asked : (length q.state.resends == 0) ≡ false = asked_of q.cache q.state.resends next.0 (up.0, up.1) next.1 is in
          let cap = subst (MirrorsMid now L.cap t.sent t.resent t.reading) (cap_some now q.state asked) m.again.cap in
          record {
            plain = record t { resends = f.number ∷ numbers_in up.1 };
            chain = f.chain;
            rtx = sym m.rtx ∙ has;
            next = sym m.again.next ∙ up.3;
            due = record {
              number = f.number;
              rest = numbers_in up.1;
              write = h.write;
              asked = refl;
              held = h.held;
              uncapped = uncapped_mirrors now L.cap t.sent t.resent t.reading q.state.cap cap (not_capped (is_capped now q.state.cap) next.0 (up.0, up.1) next.2);
            };
          }

    module _ (transport : Transport) (ids : transport.exts ≡ exts) (types_fit : (pt rtx : ℕ) → rtx_type_of rows pt ≡ Some rtx → rtx < 2 ^ 7) (wide : IsWide L) where
      -- a packet of the queue, as it is read again
      reads_sending : (x : StreamTx) (w : Write) → IsGiven L.ssrc w → IsRead exts (receipt_of x transport now (packet_at (Some now) w)) L.ssrc w.number (sending_of w)
      reads_sending x w g =
          subst (λ (s : ℕ). IsRead exts (receipt_of x transport now (packet_at (Some now) w)) s w.number (sending_of w)) g.on
          (is_read exts read_again transport ids w.ssrc w.number w.pt w.rtp_time w.marker w.csrc w.payload
          (sealed_values transport now x.acknowledged x.mid x.rid (packet_at (Some now) w).header.ext_vals) g.word g.pt g.time g.few g.sources)

      -- a repair
      reads_repair : (x : StreamTx) (ssrc n m moment pt : ℕ) (w : Write) → IsGiven L.ssrc w → ssrc < 2 ^ 32 → n ≡ m → rtx_type_of rows w.pt ≡ Some pt
          → IsRead exts (repair_of ssrc x transport now n (sent_packet rows moment w)) ssrc m (repair_plain pt w)
      reads_repair x ssrc n m moment pt w g word same e =
          let p : SentPacket = sent_packet rows moment w in
          let type : p.rtx_type ≡ pt = ap (λ (o : Option ℕ). unwrap_or o 0) e in
          let small : p.rtx_type < 2 ^ 7 = subst (λ (k : ℕ). k < 2 ^ 7) (sym type) (types_fit w.pt pt e) in
          let read = is_read exts read_again transport ids ssrc n p.rtx_type w.rtp_time w.marker w.csrc (two_bytes w.number ++ w.payload)
          (repair_values transport now x.mid x.rid p.packet.header.ext_vals) word small g.time g.few g.sources in
          let plain_same : ◌≡◌ {A = Plain} (record { pt = p.rtx_type; padded = false; marker = w.marker; time = w.rtp_time; csrc = w.csrc; payload = two_bytes w.number ++ w.payload }) (repair_plain pt w) =
          λ i. record { pt = type i; padded = false; marker = w.marker; time = w.rtp_time; csrc = w.csrc; payload = two_bytes w.number ++ w.payload } in
          let receipt : PacketReceipt = repair_of ssrc x transport now n p in
          subst (λ (k : ℕ). IsRead exts receipt ssrc k (repair_plain pt w)) same (subst (λ (q : Plain). IsRead exts receipt ssrc n q) plain_same read)

      module _ (key : ℕ) (x : StreamTx) (t : TxRecord) where
        -- a packet that is held is sent again
        module _ (q : RepairsRecord) (m : Mid rows medias now (Some q) key x L t) (ssrc : ℕ) (has : x.rtx ≡ Some ssrc) (rest : List Resend) (asked : (length q.state.resends == 0) ≡ false) where
          abbrev repaired_to : SentPacket → RepairsRecord
          repaired_to p = record q { state = after_next now size_of_sent (Some (p, rest)) q.state }

          repair_held : (n moment : ℕ) (w : Write) → Serves types L sealing now t (record t { resends = n ∷ numbers_in rest }) [] → HeldAs (past_of L t.store) n (Some w) → IsKept rows L.ssrc w
              → Polled key x L t (Some (repaired_to (sent_packet rows moment w))) (Some (repair_of ssrc x transport now q.state.next_seq_no (sent_packet rows moment w)))
          repair_held n moment w chain held stay =
              let p : SentPacket = sent_packet rows moment w in
              let receipt : PacketReceipt = repair_of ssrc x transport now q.state.next_seq_no p in
              let rtx : L.rtx ≡ Some ssrc = sym m.rtx ∙ has in
              let type = some_of (rtx_type_of rows w.pt) stay.type in
              let read : IsRead exts receipt ssrc t.next_rtx (repair_plain type.0 w) =
              reads_repair x ssrc q.state.next_seq_no t.next_rtx moment type.0 w stay.given (wide.rtx ssrc rtx).1 m.again.next type.1 in
              let event = event_is cipher own exts receipt ssrc t.next_rtx (repair_plain type.0 w) read in
              let u : TxRecord = record t { resends = numbers_in rest; next_rtx = t.next_rtx + 1; resent = t.resent ++ (now, length w.payload) ∷ [] } in
              let poll : PlainPolls types L sealing now (record t { resends = n ∷ numbers_in rest }) u (sealed ssrc t.next_rtx (repair_plain type.0 w) (bytes_given cipher own exts receipt) ∷ []) =
              resends n (numbers_in rest) w ssrc type.0 (bytes_given cipher own exts receipt) refl held rtx type.1 (seal_is cipher own exts receipt ssrc t.next_rtx (repair_plain type.0 w) read) in
              record {
                plain = u;
                chain = subst (λ (e : Event). Serves types L sealing now t u (e ∷ [])) (sym event) (chain_append chain (polls poll rests));
                mid = record {
                  key_is = m.key_is;
                  ssrc = m.ssrc;
                  rtx = m.rtx;
                  mid = m.mid;
                  queue = m.queue;
                  given = m.given;
                  cached = m.cached;
                  again = record {
                    has = m.again.has;
                    resends = refl;
                    next = ap (λ (k : ℕ). k + 1) m.again.next;
                    cap =
                        subst (MirrorsMid now L.cap t.sent u.resent t.reading) (sym (cap_again now rest (q.state.next_seq_no + 1) (length w.payload) q.state asked))
                        (resent_mirrors now L.cap t.sent t.resent t.reading (length w.payload) (cap_after now q.state) m.again.cap);
                    same = m.again.same;
                  };
                };
              }

          repair_found : (p : SentPacket) → Found q.cache t (p, rest) → Polled key x L t (Some (repaired_to p)) (Some (repair_of ssrc x transport now q.state.next_seq_no p))
          repair_found p f =
              let h = holds rows L t.store q.cache m.again.same f.number p f.held in
              let stay : IsKept rows L.ssrc h.write = last_in rows (IsKept rows L.ssrc) f.number t.store (h.moment, h.write) h.under m.cached in
              subst (λ (s : SentPacket). Polled key x L t (Some (repaired_to s)) (Some (repair_of ssrc x transport now q.state.next_seq_no s))) (sym h.is)
              (repair_held f.number h.moment h.write f.chain h.held stay)

        repair_polls : (q : RepairsRecord) (m : Mid rows medias now (Some q) key x L t) (ssrc : ℕ) (p : SentPacket) (rest : List Resend) → x.rtx ≡ Some ssrc → IsNext now q (Some (p, rest))
            → Polled key x L t (Some (record q { state = after_next now size_of_sent (Some (p, rest)) q.state })) (Some (repair_of ssrc x transport now q.state.next_seq_no p))
        repair_polls q m ssrc p rest has next =
            let is : next.0 ≡ Some (p, rest) = found_is (is_capped now q.state.cap) next.0 (p, rest) next.2 in
            repair_found q m ssrc has rest (asked_of q.cache q.state.resends next.0 (p, rest) next.1 is) p
            (subst (PassedTo q.cache t) is (passes q.cache q.state.resends next.0 t next.1 m.again.same m.again.resends))

        -- a packet of the queue is sent for the first time, once nothing is asked for
        module _ (f : Front now x t) (none : t.resends ≡ []) where
          abbrev w : Write
          w = f.write

          record Sends (after : Option RepairsRecord) : Type 0 where
            store : List (Stored Write)
            caches : Caches types L now w t.store store
            all_kept : AllByRecursion (IsKept rows L.ssrc) (flat_map write_in store)
            mirrors : MirrorsAgain rows now L (record t { queue = f.behind; store = store; sent = t.sent ++ (now, length w.payload) ∷ [] }) after

          given_front : AllByRecursion (IsGiven L.ssrc) t.queue → IsGiven L.ssrc w × AllByRecursion (IsGiven L.ssrc) f.behind
          given_front g = subst (λ (l : List Write). AllByRecursion (IsGiven L.ssrc) l) f.is g

          sends_given : (k : RtpPacket) → k ≡ packet_at (Some now) w → (q after : Option RepairsRecord) → Mid rows medias now q key x L t → Sends after
              → Polled key (after_poll x) L t after (Some (receipt_of x transport now k))
          sends_given k is q after m s =
              let g = given_front m.given in
              let receipt : PacketReceipt = receipt_of x transport now (packet_at (Some now) w) in
              let read : IsRead exts receipt L.ssrc w.number (sending_of w) = reads_sending x w g.0 in
              let event = event_is cipher own exts receipt L.ssrc w.number (sending_of w) read in
              let u : TxRecord = record t { queue = f.behind; store = s.store; sent = t.sent ++ (now, length w.payload) ∷ [] } in
              let poll : PlainPolls types L sealing now t u (sealed L.ssrc w.number (sending_of w) (bytes_given cipher own exts receipt) ∷ []) =
              sends w f.behind s.store (bytes_given cipher own exts receipt) none f.is s.caches (seal_is cipher own exts receipt L.ssrc w.number (sending_of w) read) in
              subst (λ (p : RtpPacket). Polled key (after_poll x) L t after (Some (receipt_of x transport now p))) (sym is)
              (record {
                plain = u;
                chain = subst (λ (e : Event). Serves types L sealing now t u (e ∷ [])) (sym event) (polls poll rests);
                mid = record {
                  key_is = m.key_is;
                  ssrc = m.ssrc;
                  rtx = m.rtx;
                  mid = m.mid;
                  queue = f.rest;
                  given = g.1;
                  cached = s.all_kept;
                  again = s.mirrors;
                };
              })

          sends_without : SendsNothingAgain L t → AllByRecursion (IsKept rows L.ssrc) (flat_map write_in t.store) → Sends None
          sends_without h all = record {
            store = t.store;
            caches =
                let no = no_repairs_kept w.nackable (plain_some (rtx_type_of rows w.pt)) in
                ignored (ap (λ (o : Option ℕ). w.nackable && (plain_some (rtx_type_of rows w.pt) && plain_some o)) h.has ∙ no);
            all_kept = all;
            mirrors = record { has = h.has; resends = h.resends; store = h.store };
          }

          sent_cap : (q : RepairsRecord) → MidRepairs rows now L t q → MirrorsMid now L.cap (t.sent ++ (now, length w.payload) ∷ []) t.resent t.reading (cap_after now (after_first now (length w.payload) q.state))
          sent_cap q m =
              let empty : q.state.resends ≡ [] = no_numbers q.state.resends (m.resends ∙ none) in
              subst (MirrorsMid now L.cap (t.sent ++ (now, length w.payload) ∷ []) t.resent t.reading) (sym (cap_none now (after_first now (length w.payload) q.state) empty))
              (sent_mirrors now L.cap t.sent t.resent t.reading (length w.payload) q.state.cap
              (subst (MirrorsMid now L.cap t.sent t.resent t.reading) (cap_none now q.state empty) m.cap))

          keeps_packet : (q after : RepairsRecord) → Mid rows medias now (Some q) key x L t → Keeps rows now (packet_at (Some now) w) q after → Sends (Some after)
          keeps_packet q after m (kept rtx_type _ e (cached b must)) =
              let r : MidRepairs rows now L t q = m.again in
              let type : rtx_type_of rows w.pt ≡ Some rtx_type = kept_type w.nackable (rtx_type_of rows w.pt) rtx_type e in
              let sent : SentPacket = record { packet = packet_at (Some now) w; rtx_type = rtx_type } in
              let same_sent : sent ≡ sent_packet rows now w = let t : rtx_type ≡ unwrap_or (rtx_type_of rows w.pt) 0 = sym (ap (λ (o : Option ℕ). unwrap_or o 0) type) in λ i. record { packet = packet_at (Some now) w; rtx_type = t i } in
              let told : List (Stored Write) = pushed w.number now w b ∷ evicted now ∷ [] in
              record {
                store = t.store ++ told;
                caches = stored (kept_is w.nackable (rtx_type_of rows w.pt) L.rtx rtx_type e r.has) b (λ rise. must (must_store rows L t.store q.cache r.same w.number now rise));
                all_kept =
                    let g = given_front m.given in
                    subst (λ (l : List Write). AllByRecursion (IsKept rows L.ssrc) l) (sym (flat_map-append write_in t.store told))
                    (all_push (IsKept rows L.ssrc) (flat_map write_in t.store) w m.cached (record { given = g.0; type = ap is_some type }));
                mirrors = record {
                  has = r.has;
                  resends = r.resends;
                  next = r.next;
                  cap = sent_cap q r;
                  same = record {
                    initial = r.same.initial;
                    age = r.same.age;
                    greatest = r.same.greatest;
                    events =
                        append_assoc q.cache.events (pushed w.number now sent b ∷ []) (evicted now ∷ [])
                        ∙ ap (λ (l : List (Stored SentPacket)). l ++ pushed w.number now sent b ∷ evicted now ∷ []) r.same.events
                        ∙ ap (λ (s : SentPacket). map (sent_event rows) t.store ++ pushed w.number now s b ∷ evicted now ∷ []) same_sent
                        ∙ sym (map-append (sent_event rows) t.store told);
                  };
                };
              }
          keeps_packet q after m (counted e) =
              let r : MidRepairs rows now L t q = m.again in
              record {
                store = t.store;
                caches = ignored (not_kept w.nackable (rtx_type_of rows w.pt) L.rtx e);
                all_kept = m.cached;
                mirrors = record { has = r.has; resends = r.resends; next = r.next; cap = sent_cap q r; same = r.same };
              }

          sends_packet : (q after : RepairsRecord) (k : RtpPacket) → k ≡ packet_at (Some now) w → Mid rows medias now (Some q) key x L t → Keeps rows now k q after
              → Polled key (after_poll x) L t (Some after) (Some (receipt_of x transport now k))
          sends_packet q after k is m keeps =
              sends_given k is (Some q) (Some after) m (keeps_packet q after m (subst (λ (p : RtpPacket). Keeps rows now p q after) is keeps))

      -- what a stream counts for its reports is no part of its mirror
      counted_polled : (key : ℕ) (x : StreamTx) (t : TxRecord) (counts : TxReports) (q : Option RepairsRecord) (o : Option PacketReceipt) → Polled key x L t q o
          → Polled key (record x { reports = counts }) L t q o
      counted_polled key x t counts q o p =
          let m = p.mid in
          record {
            plain = p.plain;
            chain = p.chain;
            mid = record { key_is = m.key_is; ssrc = m.ssrc; rtx = m.rtx; mid = m.mid; queue = m.queue; given = m.given; cached = m.cached; again = m.again };
          }

      none_given : (o : Option RtpPacket) (p : RtpPacket) → o ≡ Some p → o ≡ None → ⊥
      none_given o p e h = cc

      module _ (key : ℕ) (x : StreamTx) (t : TxRecord) where
        -- a stream without repairs
        polls_without : Mid rows medias now None key x L t → Polled key (after_poll x) L t None (polled x transport now)
        polls_without m =
            elim (front_of now x t m.queue) [
              | inl n ↦
                  subst (λ (o : Option RtpPacket). Polled key (after_poll x) L t None (option_map (receipt_of x transport now) o)) (sym n.next)
                  (record {
                    plain = t;
                    chain = rests;
                    mid = record { key_is = m.key_is; ssrc = m.ssrc; rtx = m.rtx; mid = m.mid; queue = n.rest; given = m.given; cached = m.cached; again = m.again };
                  })
              | inr f ↦
                  subst (λ (o : Option RtpPacket). Polled key (after_poll x) L t None (option_map (receipt_of x transport now) o)) (sym f.next)
                  (sends_given key x t f m.again.resends (packet_at (Some now) f.write) refl None None m (sends_without key x t f m.again.resends m.again m.cached))
            ]

        -- nothing that is asked for is held, or the cap is met
        after_none : (q : RepairsRecord) → Mid rows medias now (Some q) key x L t → (ssrc : ℕ) (after : RepairsRecord) → Repairs transport now ssrc x q after None
            → Serves types L sealing now t (record t { resends = [] }) [] × Mid rows medias now (Some after) key x L (record t { resends = [] })
        after_none q m ssrc _ (none_asked next) = (goes_none t q m.again next, none_mirrors key x t q m)

        after_some : (q : RepairsRecord) → Mid rows medias now (Some q) key x L t → (ssrc : ℕ) → x.rtx ≡ Some ssrc → (after : RepairsRecord) (receipt : PacketReceipt)
            → Repairs transport now ssrc x q after (Some receipt) → Polled key (after_resend receipt x) L t (Some after) (Some receipt)
        after_some q m ssrc has _ _ (repaired p rest next small) =
            let after : RepairsRecord = record q { state = after_next now size_of_sent (Some (p, rest)) q.state } in
            let receipt : PacketReceipt = repair_of ssrc x transport now q.state.next_seq_no p in
            counted_polled key x t (with_repair receipt x.reports) (Some after) (Some receipt) (repair_polls key x t q m ssrc p rest has next)

        behind : (chain : Serves types L sealing now t (record t { resends = [] }) []) (y : StreamTx) (q : Option RepairsRecord) (o : Option PacketReceipt)
            → Polled key y L (record t { resends = [] }) q o → Polled key y L t q o
        behind chain y q o p = record { plain = p.plain; chain = chain_append chain p.chain; mid = p.mid }

        pub polls_mirror : (p after : Option RepairsRecord) (y : StreamTx) (o : Option PacketReceipt) → Mid rows medias now p key x L t → Polls rows transport now x p y after o
            → Polled key y L t after o
        polls_mirror _ _ _ _ m without = polls_without m
        polls_mirror _ _ _ _ m (again ssrc q after receipt has repairs) = after_some q m ssrc has after receipt repairs
        polls_mirror _ _ _ _ m (first ssrc q between after k has repairs next keeps) =
            let none = after_none q m ssrc between repairs in
            elim (front_of now x (record t { resends = [] }) m.queue) [
              | inl n ↦ absurd (none_given (next_of x.queue) k next n.next)
              | inr f ↦
                  let is : k ≡ packet_at (Some now) f.write = same_Some k (packet_at (Some now) f.write) (sym next ∙ f.next) in
                  behind none.0 (after_poll x) (Some after) (Some (receipt_of x transport now k))
                  (sends_packet key x (record t { resends = [] }) f refl between after k is none.1 keeps)
            ]
        polls_mirror _ _ _ _ m (nothing ssrc q after has repairs next) =
            let none = after_none q m ssrc after repairs in
            record { plain = record t { resends = [] }; chain = none.0; mid = none.1 }
