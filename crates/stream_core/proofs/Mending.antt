-- What is sealed for a repair, and what a stream is after that.
use Rattle.std.proofs.Common.{◌≡◌, ℕ, ◌%◌, ◌<◌, ◌^◌, ◌++◌, List, [], ◌∷◌, Option, Some, None, true, is_some, length, refl, sym, ap, subst, ◌∙◌, arith}
use Rattle.std.specs.Prelude.{IfSome, IfNone}
use Rattle.std.specs.Int.{w16, to_be_bytes}
use Rattle.rtp_wire.specs.declared.header.RtpHeader.{RtpHeader}
use Rattle.rtp_wire.specs.Header.{header_bytes}
use Rattle.stream_core.specs.declared.stream_tx.PacketReceipt.{PacketReceipt}
use Rattle.stream_core.specs.declared.transport.Transport.{Transport}
use Rattle.resend_core.specs.ResendStore.{Past}
use Rattle.resend_core.specs.RtxCache.{StandsFor as CacheStandsFor}
use Rattle.std.specs.Option.{option_map}
use Rattle.rtx_core.specs.Resends.{ResendState, after_first, after_next, number_of, IsNext}
use Rattle.rtx_core.specs.declared.resend.Resend.{Resend}
use Rattle.stream_core.specs.Repairing.{SentPacket, RepairsView, RepairsRecord, RepairsStandFor, size_of_sent, repair_header, repair_of, Repairs, repaired, none_asked, Keeps, Polls, first, nothing, Stays, none_left, IsUsedUp}
use Rattle.stream_core.specs.declared.packet.RtpPacket.{RtpPacket}
use Rattle.stream_core.specs.declared.payload_types.TypeRow.{TypeRow}
use Rattle.stream_core.specs.Arrivals.{with_first_of}
use Rattle.stream_core.specs.Queue.{next_of, rest_of, rest_after, if_stamped}
use Rattle.stream_core.specs.TxRecord.{TxRecord, receipt_of, polled, after_poll}
use Rattle.stream_core.proofs.Polling.{bytes_of_any}

-- it is that repair
pub repair_is : (ssrc : ℕ) (x : TxRecord) (t : Transport) (now n : ℕ) (p : SentPacket) (h : RtpHeader) (between : List ℕ) (r : PacketReceipt)
    → record h { header_len = length (header_bytes t.exts h) } ≡ repair_header ssrc x t now n p
    → r.header ≡ record h { header_len = length (header_bytes t.exts h) } → r.seq_no ≡ n → between ≡ to_be_bytes w16 (p.packet.seq_no % 65536)
    → r.plain ≡ header_bytes t.exts h ++ (between ++ p.packet.payload) → r ≡ repair_of ssrc x t now n p
repair_is ssrc x t now n p h between r said header number low plain =
    let bytes : header_bytes t.exts h ≡ header_bytes t.exts (repair_header ssrc x t now n p) =
    bytes_of_any t.exts h (length (header_bytes t.exts h)) ∙ ap (header_bytes t.exts) said in
    let whole = plain ∙ (λ i. bytes i ++ (low i ++ p.packet.payload)) in
    let front = header ∙ said in
    λ i. record { header = front i; seq_no = number i; plain = whole i }

module _ {S : Type 0} (stands_for : S → Past SentPacket → Type 0) where
  -- a packet was sent that is not kept
  pub counted_alone : (v w : RepairsView S) (now n m : ℕ) → n ≡ m → w ≡ record v { state = after_first now n v.state } → (r : RepairsRecord) → RepairsStandFor stands_for v r
      → RepairsStandFor stands_for w (record r { state = after_first now m r.state })
  counted_alone v w now n m same is r h =
      subst (λ x. RepairsStandFor stands_for x (record r { state = after_first now m r.state })) (sym is) (record {
        state = (λ i. after_first now (same i) (h.state i));
        cache = h.cache;
        numbers = h.numbers;
      })

  -- something was sent again, or nothing is asked for any more
  pub sent_again : (v w : RepairsView S) (now : ℕ) (found : Option (SentPacket × List Resend)) → w.state ≡ after_next now size_of_sent found v.state → w.cache ≡ v.cache
      → (r : RepairsRecord) → RepairsStandFor stands_for v r → RepairsStandFor stands_for w (record r { state = after_next now size_of_sent found r.state })
  sent_again v w now found state cache r h = record {
    state = state ∙ ap (after_next now size_of_sent found) h.state;
    cache = subst (λ c. CacheStandsFor stands_for size_of_sent c r.cache) (sym cache) h.cache;
    numbers = h.numbers;
  }

-- a packet was found, or none
pub none_found : (o : Option (SentPacket × List Resend)) → None ≡ option_map (λ f. f.0) o → o ≡ None
none_found None h = refl
none_found (Some f) h = absurd cc

pub used_up : (now : ℕ) (o : Option (SentPacket × List Resend)) (r : RepairsRecord) → is_some o ≡ true → IsNext now r o → r.state.next_seq_no ≡ 2 ^ 48 → IsUsedUp now r
used_up now None r some next last = absurd cc
used_up now (Some f) r some next last = (f.0, f.1, next, last)

module _ {S : Type 0} (stands_for : S → Past SentPacket → Type 0) (t : Transport) (now ssrc : ℕ) (x : TxRecord) (v w : RepairsView S) where
  -- nothing is to be sent again
  pub none_again : (o : Option (SentPacket × List Resend)) → None ≡ option_map (λ f. f.0) o → w ≡ record v { state = after_next now size_of_sent None v.state }
      → ((r : RepairsRecord) → RepairsStandFor stands_for v r → IsNext now r o)
      → (r : RepairsRecord) → RepairsStandFor stands_for v r → (after : RepairsRecord) × Repairs t now ssrc x r after None × RepairsStandFor stands_for w after
  none_again o none gave due r h = (
    _,
    none_asked (subst (IsNext now r) (none_found o none) (due r h)),
    sent_again stands_for v w now None (ap (λ (q : RepairsView S). q.state) gave) (ap (λ (q : RepairsView S). q.cache) gave) r h,
  )

  -- a packet is sent again
  pub some_again : (o : Option (SentPacket × List Resend)) (sent : SentPacket) (n : Option ℕ) (seq_no : ℕ) (receipt : PacketReceipt) → Some sent ≡ option_map (λ f. f.0) o
      → n ≡ number_of o v.state → IfSome n (λ m. m < 2 ^ 48) → seq_no ≡ v.state.next_seq_no → receipt ≡ repair_of ssrc x t now seq_no sent
      → w.state ≡ after_next now size_of_sent o v.state → w.cache ≡ v.cache → ((r : RepairsRecord) → RepairsStandFor stands_for v r → IsNext now r o)
      → (r : RepairsRecord) → RepairsStandFor stands_for v r → (after : RepairsRecord) × Repairs t now ssrc x r after (Some receipt) × RepairsStandFor stands_for w after
  some_again None sent n seq_no receipt packet number small seq is state cache due r h = absurd cc
  some_again (Some f) sent n seq_no receipt packet number small seq is state cache due r h =
      let first : sent ≡ f.0 = cc in
      let same : v.state.next_seq_no ≡ r.state.next_seq_no = ap (λ (s : ResendState). s.next_seq_no) h.state in
      let bound : v.state.next_seq_no < 2 ^ 48 = subst (λ o. IfSome o (λ m. m < 2 ^ 48)) number small in
      let fits : r.state.next_seq_no < 2 ^ 48 = omega (arith, bound, same) in
      let whole : receipt ≡ repair_of ssrc x t now r.state.next_seq_no f.0 = is ∙ (λ i. repair_of ssrc x t now ((seq ∙ same) i) (first i)) in (
        _,
        subst (λ p. Repairs t now ssrc x r (record r { state = after_next now size_of_sent (Some f) r.state }) (Some p)) (sym whole) (repaired f.0 f.1 (due r h) fits),
        sent_again stands_for v w now (Some f) state cache r h,
      )

pub none_stays : (t : Transport) (now ssrc : ℕ) (x : TxRecord) (q after : RepairsRecord) → Repairs t now ssrc x q after None → Stays now (Some q) (Some after)
none_stays t now ssrc x q after (none_asked next) = none_left q next

-- where no packet may leave, none does
stays_after : (p : RtpPacket) (ps : List RtpPacket) (o : Option ℕ) → if_stamped p o ≡ None → rest_after p ps o ≡ p ∷ ps
stays_after p ps None h = refl
stays_after p ps (Some t) h = absurd cc

rest_same : (ps : List RtpPacket) → next_of ps ≡ None → rest_of ps ≡ ps
rest_same [] h = refl
rest_same (p ∷ ps) h = stays_after p ps p.timestamp h

no_next : (x : TxRecord) (t : Transport) (now : ℕ) (o : Option RtpPacket) → None ≡ option_map (receipt_of x t now) o → o ≡ None
no_next x t now None h = refl
no_next x t now (Some p) h = absurd cc

-- a stream that has nothing to send again gives the packet at the front
module _ {S : Type 0} (stands_for : S → Past SentPacket → Type 0) (types : List (ℕ × TypeRow)) (t : Transport) (now ssrc : ℕ) (x y : TxRecord) (between w : RepairsView S)
    (has : x.rtx ≡ Some ssrc) (after : y ≡ after_poll x) where
  pub polls_first : (o : Option PacketReceipt) → o ≡ polled x t now
      → IfSome o (λ p. (m : RepairsRecord) → RepairsStandFor stands_for between m
      → (packet : RtpPacket) × (next_of x.queue ≡ Some packet) × (q : RepairsRecord) × Keeps types now packet m q × RepairsStandFor stands_for w q)
      → IfNone o (w ≡ between) → (r : RepairsRecord) → (m : RepairsRecord) × Repairs t now ssrc x r m None × RepairsStandFor stands_for between m
      → (q : RepairsRecord) × Polls types t now x (Some r) y (Some q) o × RepairsStandFor stands_for w q
  polls_first (Some p) is keeps none r k =
      let f = keeps k.0 k.2 in
      let given : p ≡ receipt_of x t now f.0 = let e : Some p ≡ Some (receipt_of x t now f.0) = is ∙ ap (option_map (receipt_of x t now)) f.1 in cc in (
        f.2,
        subst (λ (z : TxRecord). Polls types t now x (Some r) z (Some f.2) (Some p)) (sym after)
            (subst (λ z. Polls types t now x (Some r) (after_poll x) (Some f.2) (Some z)) (sym given) (first ssrc r k.0 f.2 f.0 has k.1 f.1 f.3)),
        f.4,
      )
  polls_first None is keeps none r k =
      let last = no_next x t now (next_of x.queue) is in
      let unchanged : y ≡ x = after ∙ (λ i. record x { queue = rest_same x.queue last i; reports = with_first_of (last i) x.reports }) in (
        k.0,
        subst (λ (z : TxRecord). Polls types t now x (Some r) z (Some k.0) None) (sym unchanged) (nothing ssrc r k.0 has k.1 last),
        subst (λ v. RepairsStandFor stands_for v k.0) (sym none) k.2,
      )
