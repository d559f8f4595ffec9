-- What a session tells of the packet that another one sealed.
use Rattle.std.proofs.Common.{◌≡◌, ℕ, zero, suc, Bool, true, false, List, [], ◌∷◌, length, Option, Some, None, refl, sym, ap, ◌∙◌, subst, arith, slice_get}
use Rattle.std.specs.Prelude.{◌==◌, ◌||◌, ◌&&◌, ◌++◌, IfSome, if◌then◌else◌, is_some, is_none, option_and_then, map, replicate}
use Rattle.std.specs.Map.{values_of}
use Rattle.std.specs.Option.{option_map, option_to_list}
use Rattle.rtp_wire.specs.BytesLaws.{AreWords}
use Rattle.rtp_wire.specs.declared.extension.ExtensionMap.{ExtensionMap}
use Rattle.rtp_wire.specs.declared.header.RtpHeader.{RtpHeader}
use Rattle.rtp_wire.specs.Header.{header_of, header_bytes, wire_form}
use Rattle.rtp_wire.specs.HeaderLaws.{IsHeader, WrittenIsReadAgain}
use Rattle.srtp_core.specs.Cipher.{CipherMeaning}
use Rattle.srtp_core.specs.Contexts.{SrtpState}
use Rattle.srtp_core.specs.Laws.{RtpSealsApart, RtpSealKeepsHeader}
use Rattle.srtp_core.specs.Seals.{OpensTo}
use Rattle.stream_core.specs.declared.packet.RtpPacket.{RtpPacket}
use Rattle.stream_core.specs.declared.stream_tx.PacketReceipt.{PacketReceipt}
use Rattle.stream_core.specs.declared.transport.Transport.{Transport}
use Rattle.stream_core.specs.Queue.{with_stamp}
use Rattle.stream_core.specs.Pauses.{pause_of, pauses}
use Rattle.stream_core.specs.RxRecord.{RxRecord, expected, came_at}
use Rattle.stream_core.specs.declared.payload_types.TypeRow.{TypeRow}
use Rattle.stream_core.specs.Repairing.{claims_in, RepairsRecord, primary_type_of, Polls, without, again as sends_again, first as sends_first, nothing, repairs_of}
use Rattle.stream_core.specs.Seen.{seen_of}
use Rattle.stream_core.specs.StreamsRecord.{StreamsRecord, taken_up, polls_at}
use Rattle.stream_core.specs.Tables.{value_under, place_of}
use Rattle.stream_core.specs.TxRecord.{TxRecord, declared, written, after_timeout, polled, receipt_of, sealed_header}
use Rattle.stream_core.specs.Write.{packet_of, WriteRecord}
use Rattle.session_core.specs.declared.datagram.Datagram.{Datagram}
use Rattle.session_core.specs.declared.datagram.Event.{Event}
use Rattle.session_core.specs.declared.datagram.Event.TheVariants as event
use Rattle.session_core.specs.declared.datagram.Opened.{Opened}
use Rattle.session_core.specs.Calls.{lacks_keys, told, after_events, Polled}
use Rattle.session_core.specs.News.{no_news, news_told}
use Rattle.mapping_core.specs.Mapped.{is_early_padding, repairs_expected, has_rtx}
use Rattle.mapping_core.specs.declared.mapping.Mapping.TheVariants.{Main}
use Rattle.session_core.specs.Mapping.{rids_for, is_standing, mapped_in, taken_up_for}
use Rattle.session_core.specs.Receiving.{time_taken, Receives, Opens, OpensRepair, OpensPadding, OpensIn, number_of, rx_opened, arrival_of, after_opened, packet_from, cut, opened, repaired, padding, stays}
use Rattle.session_core.specs.Repairs.{repaired_by, original_under}
use Rattle.session_core.specs.Feedback.{due_of, some_due}
use Rattle.session_core.specs.Reports.{of_kind}
use Rattle.session_core.specs.Sending.{sealed_as, sealed_by, Gives, NextPacket, none_due, given, passed, NextDatagram, silent, packet as leaves, compound}
use Rattle.session_core.specs.SessionRecord.{MediaRecord, SessionState, SessionRecord, streams_in, with_incoming}
use Rattle.uses.specs.Exchange.{payload_told, end_config}
use Rattle.uses.proofs.Opening.{sealed_packet, opens_to_it, reads_header}
use Rattle.rtp_wire.specs.Extensions.{no_values}

-- the packet numbered 1 of type 96 at a moment, without marker, header values and contributing sources
abbrev pub first_write : ℕ → List ℕ → WriteRecord
first_write now payload = record {
  pt = 96;
  seq_no = 1;
  time = 0;
  wallclock = now;
  marker = false;
  ext_vals = no_values;
  nackable = false;
  payload = payload;
  csrc = [];
}

some_same : {X : Type 0} (x y : X) → Some x ≡ Some y → x ≡ y
some_same x y e = cc

never : {X : Type 0} {x : X} {l : List X} → x ∷ l ≡ [] → ⊥
never h = absurd cc

-- of two events that are told, the second one carries this payload
second_of : (payload : List ℕ) (r between after : SessionRecord) (x y : Event) (first second : Option Event) → told r ≡ x ∷ y ∷ [] → payload_told y ≡ payload
    → Polled r first between → Polled between second after → IfSome second (λ e. payload_told e ≡ payload)
second_of payload r between after x y None second is carries p q = absurd (never (sym is ∙ p.0))
second_of payload r between after x y (Some e) None is carries p q = tt
second_of payload r between after x y (Some e) (Some f) is carries p q =
    let this : f ≡ y = head_is (sym q.0 ∙ sym (rest_is (sym is ∙ p.0))) in
    ap payload_told this ∙ carries
  where
    rest_is : {X : Type 0} {a b : X} {l m : List X} → a ∷ l ≡ b ∷ m → l ≡ m
    rest_is h = cc

    head_is : {X : Type 0} {a b : X} {l m : List X} → a ∷ l ≡ b ∷ m → a ≡ b
    head_is h = cc

-- where nothing is told, nothing is told second
none_then : (payload : List ℕ) (r between after : SessionRecord) (first second : Option Event) → told r ≡ [] → told (after_events r) ≡ []
    → Polled r first between → Polled between second after → IfSome second (λ e. payload_told e ≡ payload)
none_then payload r between after (Some e) second unsaid quiet p q = absurd (never (sym p.0 ∙ unsaid))
none_then payload r between after None None unsaid quiet p q = tt
none_then payload r between after None (Some f) unsaid quiet p q = absurd (never (sym q.0 ∙ ap told p.1 ∙ quiet))

zeros : (n : ℕ) → AreWords (replicate n 0)
zeros zero = tt
zeros (suc n) = (omega arith, zeros n)

-- the stream that is expected
abbrev pub awaited : List ℕ → RxRecord
awaited mid = expected 42 None mid None false end_config.pause_threshold

-- no feedback is due where none waits
no_feedback : (now : ℕ) (s : SessionState) → s.feedback ≡ [] → due_of now s ≡ []
no_feedback now s none = by (now == 0)
  where
    by : (b : Bool) → (if b then [] else s.feedback) ≡ []
    by true = refl
    by false = none

-- a stream whose packets are not kept gives the packet at its front

no_repairs : (x : TxRecord) → repairs_of x (let none : List (ℕ × RepairsRecord) = [] in none) ≡ None
no_repairs x = by x.rtx
  where
    by : (rtx : Option ℕ) → option_and_then (λ (r : ℕ). value_under x.ssrc (let none : List (ℕ × RepairsRecord) = [] in none)) rtx ≡ None
    by None = refl
    by (Some r) = refl

polls_front : (types : List (ℕ × TypeRow)) (t : Transport) (now : ℕ) (x after : TxRecord) (p q : Option RepairsRecord) (o : Option PacketReceipt) → p ≡ None
    → Polls types t now x p after q o → o ≡ polled x t now
polls_front types t now x _ _ _ _ none without = refl
polls_front types t now x _ _ _ _ none (sends_again ssrc q after receipt rtx repairs) = absurd cc
polls_front types t now x _ _ _ _ none (sends_first ssrc q between after p rtx repairs next keeps) = absurd cc
polls_front types t now x _ _ _ _ none (nothing ssrc q after rtx repairs next) = absurd cc

module _ (cipher : CipherMeaning) (k : SrtpState) (t : Transport) (now : ℕ) (mid payload : List ℕ) where
  -- the stream, with the packet that waits after a write and a tick
  abbrev pub stream : TxRecord
  stream = after_timeout now (written (first_write now payload) (declared 42 None mid None))

  abbrev pub packet : RtpPacket
  packet = with_stamp now (packet_of 42 (first_write now payload))

  abbrev pub header : RtpHeader
  header = sealed_header stream t now packet

  abbrev pub receipt : PacketReceipt
  receipt = receipt_of stream t now packet

  is_header : IsHeader header
  is_header = record { number = omega arith; time = omega arith; source = omega arith; few = omega arith; room = refl; words = zeros 15 }

  -- the tick tells it its kind, where it has a media section: it gives the same packet
  abbrev pub streams : Option MediaRecord → List (ℕ × TxRecord)
  streams media = (42, of_kind None media stream) ∷ []

  told_gives : (media : Option MediaRecord) → polled (of_kind None media stream) t now ≡ Some receipt
  told_gives None = refl
  told_gives (Some m) = refl

  -- the stream at any place gives its packet
  at_place : (media : Option MediaRecord) (place : ℕ) (x : TxRecord) → slice_get (values_of (streams media)) place ≡ Some x → polled x t now ≡ Some receipt
  at_place media zero x at = ap (λ y. polled y t now) (sym (some_same (of_kind None media stream) x at)) ∙ told_gives media
  at_place media (suc i) x at = absurd cc

  -- a session with that stream alone, whose packets are not kept
  pub record Sends (r : SessionRecord) : Type 0 where
    pub transport : r.state.transport ≡ t
    pub media : Option MediaRecord
    pub tx : r.state.tx ≡ streams media
    pub repairs : r.repairs ≡ []

  gives_it : (r : SessionRecord) (place : ℕ) (s : StreamsRecord) (o : Option PacketReceipt) → Sends r → Gives now r place s o → o ≡ Some receipt
  gives_it r place _ _ is (polls_at x after q o at polls) =
      polls_front r.state.types r.state.transport now x after (repairs_of x r.repairs) q o (ap (λ (l : List (ℕ × RepairsRecord)). repairs_of x l) is.repairs ∙ no_repairs x) polls
      ∙ ap (λ (u : Transport). polled x u now) is.transport
      ∙ at_place is.media place x (ap (λ (es : List (ℕ × TxRecord)). slice_get (values_of es) place) (sym is.tx) ∙ at)

  next_is : (r after : SessionRecord) (o : Option PacketReceipt) (p : PacketReceipt) → Sends r → o ≡ Some p → NextPacket now r after o → p ≡ receipt
  next_is r _ _ p is same (none_due _ e) = absurd cc
  next_is r _ _ p is same (given _ place s _ e gives) = some_same p receipt (sym same ∙ gives_it r place s _ is gives)
  next_is r after o p is same (passed _ _ place s _ e gives rest) = let not = gives_it r place s None is gives in absurd cc

  from_receipt : (o : Option PacketReceipt) (d : Datagram) → ((p : PacketReceipt) → o ≡ Some p → p ≡ receipt) → sealed_by cipher (Some k) o ≡ Some d
      → d ≡ sealed_as cipher k receipt
  from_receipt None d h e = absurd cc
  from_receipt (Some p) d h e = sym (some_same (sealed_as cipher k p) d e) ∙ ap (sealed_as cipher k) (h p refl)

  abbrev pub packet_bytes : List ℕ
  packet_bytes = sealed_packet cipher k.profile k.keys 42 1 (header_bytes t.exts header) payload

  bytes_are : (sealed_as cipher k receipt).bytes ≡ packet_bytes
  unfolding header_bytes
  bytes_are = refl

  -- what leaves is that packet, sealed
  sealed_bytes : (r after : SessionRecord) (o : Option Datagram) (d : Datagram) → r.state.sealing ≡ Some k → r.state.feedback ≡ [] → Sends r → o ≡ Some d
      → NextDatagram cipher now r after o → d.bytes ≡ packet_bytes
  sealed_bytes r _ _ d sealing feedback is same (silent spoken none) = absurd cc
  sealed_bytes r _ _ d sealing feedback is same (leaves after o spoken none next) =
      ap (λ (x : Datagram). x.bytes) (from_receipt o d (λ p e. next_is r after o p is e next) (ap (λ (q : Option SrtpState). sealed_by cipher q o) (sym sealing) ∙ same)) ∙ bytes_are
  sealed_bytes r _ _ d sealing feedback is same (compound some fresh) =
      let not : true ≡ false = sym some ∙ ap some_due (no_feedback now r.state feedback) in
      absurd cc

  pub sent_bytes : (r after : SessionRecord) (d : Datagram) → r.state.sealing ≡ Some k → r.state.feedback ≡ [] → Sends r → NextDatagram cipher now r after (Some d)
      → d.bytes ≡ packet_bytes
  sent_bytes r after d sealing feedback is next = sealed_bytes r after (Some d) d sealing feedback is refl next

  -- the header that is read off it
  record Reads (h : RtpHeader) : Type 0 where
    source : h.ssrc ≡ 42
    low : h.sequence_number ≡ 1
    plain : h.has_padding ≡ false
    long : h.header_len ≡ length (header_bytes t.exts header)

  form_reads : Reads (wire_form t.exts header)
  unfolding wire_form
  form_reads = record { source = refl; low = refl; plain = refl; long = refl }

  reads : (h : RtpHeader) → WrittenIsReadAgain → RtpSealKeepsHeader cipher → header_of t.exts packet_bytes ≡ Some h → Reads h
  reads h again keeps e =
      let same : wire_form t.exts header ≡ h =
      some_same (wire_form t.exts header) h (sym (reads_header cipher k.profile k.keys 42 1 payload t.exts header again keeps is_header) ∙ e) in
      subst Reads same form_reads

  -- a session that expects the stream and was told nothing
  pub record Expects (r : SessionRecord) : Type 0 where
    pub keys : lacks_keys r.state ≡ false
    pub opening : r.state.opening ≡ Some k
    pub transport : r.state.transport.exts ≡ t.exts
    pub rx : r.rx ≡ (42, awaited mid) ∷ []
    pub plain : (pt : ℕ) → primary_type_of r.state.types pt ≡ None
    pub seen : r.seen ≡ []
    pub application : r.state.application ≡ None
    pub news : r.state.news ≡ no_news
    pub silent : told r ≡ []
    pub quiet : told (after_events r) ≡ []

  opens_same : (o : Option SrtpState) (h : RtpHeader) (n : ℕ) (bytes other : List ℕ) → o ≡ Some k → OpensIn cipher o h n bytes other
      → OpensTo cipher k.profile k.keys h.ssrc n h.header_len bytes other
  opens_same o h n bytes other e = subst (λ (o : Option SrtpState). OpensIn cipher o h n bytes other → OpensTo cipher k.profile k.keys h.ssrc n h.header_len bytes other) (sym e) (λ x. x)

  opens_at : (a b c d e f : ℕ) (bytes other : List ℕ) → a ≡ b → c ≡ d → e ≡ f → OpensTo cipher k.profile k.keys a c e bytes other → OpensTo cipher k.profile k.keys b d f bytes other
  opens_at a b c d e f bytes other p q r =
      subst (λ (x : ℕ). OpensTo cipher k.profile k.keys a c e bytes other → OpensTo cipher k.profile k.keys x d f bytes other) p
      (subst (λ (x : ℕ). OpensTo cipher k.profile k.keys a c e bytes other → OpensTo cipher k.profile k.keys a x f bytes other) q
      (subst (λ (x : ℕ). OpensTo cipher k.profile k.keys a c e bytes other → OpensTo cipher k.profile k.keys a c x bytes other) r (λ x. x)))

  number_is : (r : SessionRecord) (h : RtpHeader) (n : ℕ) → Expects r → Reads h
      → number_of (seen_of h.ssrc r.seen) r.rx r.probes h.ssrc h.sequence_number ≡ Some n → n ≡ 1
  number_is r h n x y e =
      let at : number_of (seen_of 42 []) ((42, awaited mid) ∷ []) r.probes 42 1 ≡ Some 1 = refl in
      let moved : number_of (seen_of h.ssrc r.seen) r.rx r.probes h.ssrc h.sequence_number ≡ number_of (seen_of 42 []) ((42, awaited mid) ∷ []) r.probes 42 1 =
      cc (x.seen, x.rx, y.source, y.low) in
      some_same n 1 (sym e ∙ moved ∙ at)

  -- what it opens to is the payload
  opened_payload : (r : SessionRecord) (h : RtpHeader) (n : ℕ) (other : List ℕ) → WrittenIsReadAgain → RtpSealKeepsHeader cipher → RtpSealsApart cipher
      → Expects r → Opens cipher r packet_bytes h n other → cut h other ≡ payload
  opened_payload r h n other again keeps apart x o =
      let y : Reads h = reads h again keeps (ap (λ (m : ExtensionMap). header_of m packet_bytes) (sym x.transport) ∙ o.reads) in
      let opens : OpensTo cipher k.profile k.keys 42 1 (length (header_bytes t.exts header)) packet_bytes other =
      opens_at h.ssrc 42 n 1 h.header_len (length (header_bytes t.exts header)) packet_bytes other y.source (number_is r h n x y o.accepts) y.long
      (opens_same r.state.opening h n packet_bytes other x.opening o.opens) in
      let kept : cut h other ≡ other = cut_plain h other y.plain in
      kept ∙ opens_to_it cipher k.profile k.keys 42 1 (header_bytes t.exts header) payload other keeps apart opens
    where
      cut_plain : (h : RtpHeader) (other : List ℕ) → h.has_padding ≡ false → cut h other ≡ other
      cut_plain h other e = rw e refl

  -- after it came it is told that the stream is unpaused, and then the packet
  told_then : (r : SessionRecord) (h : RtpHeader) (n : ℕ) (other : List ℕ) → Expects r → Reads h
      → told (after_opened now h n other r) ≡ event.StreamPaused (pause_of (came_at (arrival_of r.state.types now h (length (cut h other))) n (awaited mid).state)) ∷ event.RtpPacket (packet_from (time_taken (arrival_of r.state.types now h (length (cut h other))) r.rx h.ssrc) now h n (cut h other)) ∷ []
  told_then r h n other x y =
      λ j.
      if x.keys j then []
      else option_to_list (option_map event.AppSpecificFeedback (x.application j))
      ++ (map event.StreamPaused (pauses (rx_opened (seen_of (y.source j) (x.seen j)) (arrival_of r.state.types now h (length (cut h other))) (y.source j) n (x.rx j)))
      ++ (option_to_list (option_map event.RtpPacket (if y.source j == 0 then r.state.packet else Some (packet_from (time_taken (arrival_of r.state.types now h (length (cut h other))) r.rx h.ssrc) now h n (cut h other))))
      ++ news_told (x.news j)))

  -- no datagram of the stream is a repair
  no_repair : (r : SessionRecord) (h : RtpHeader) → Expects r → h.ssrc ≡ 42 → repaired_by r.state.types r.rx r.known.originals h ≡ None
  no_repair r h x source =
      λ j.
      if source j == 0 then None
      else (if is_some (place_of (source j) (x.rx j)) then (if is_some (x.plain h.payload_type j) then Some (source j) else None)
      else original_under r.state.types (x.rx j) r.known.originals h)

  -- the stream is known: nothing is taken up
  kept_as : (r : SessionRecord) (h : RtpHeader) → Expects r → h.ssrc ≡ 42 → taken_up_for h r ≡ r
  kept_as r h x source =
      let standing : is_standing h.ssrc r.rx r.known.originals ≡ true =
      λ j. source j == 0 || (is_some (place_of (source j) (x.rx j)) || is_some (place_of (source j) r.known.originals)) in
      ap (λ b. with_incoming (taken_up h.ssrc (if b then Main h.ssrc else mapped_in h r) (streams_in r)) r) standing

  -- what is told second after it came is a packet of the payload
  pub second_carries : (r came between after : SessionRecord) (o : Option Opened) (bytes : List ℕ) (first second : Option Event)
      → WrittenIsReadAgain → RtpSealKeepsHeader cipher → RtpSealsApart cipher
      → Expects r → bytes ≡ packet_bytes → Receives cipher r bytes now came o → Polled came first between → Polled between second after
      → IfSome second (λ e. payload_told e ≡ payload)
  second_carries r came between after o bytes first second again keeps apart x same (opened h n other opens) p q =
      let there : Opens cipher (taken_up_for h r) packet_bytes h n other = subst (λ (l : List ℕ). Opens cipher (taken_up_for h r) l h n other) same opens in
      let y : Reads h = reads h again keeps (ap (λ (m : ExtensionMap). header_of m packet_bytes) (sym x.transport) ∙ there.reads) in
      let stays_so = kept_as r h x y.source in
      let at : Opens cipher r packet_bytes h n other = subst (λ (u : SessionRecord). Opens cipher u packet_bytes h n other) stays_so there in
      second_of payload came between after _ _ first second (ap (λ (u : SessionRecord). told (after_opened now h n other u)) stays_so ∙ told_then r h n other x y) (opened_payload r h n other again keeps apart x at) p q
  second_carries r came between after o bytes first second again keeps apart x same (repaired h original n other opens) p q =
      let there : OpensRepair cipher (taken_up_for h r) packet_bytes h original n other = subst (λ (l : List ℕ). OpensRepair cipher (taken_up_for h r) l h original n other) same opens in
      let y : Reads h = reads h again keeps (ap (λ (m : ExtensionMap). header_of m packet_bytes) (sym x.transport) ∙ there.reads) in
      let at : OpensRepair cipher r packet_bytes h original n other = subst (λ (u : SessionRecord). OpensRepair cipher u packet_bytes h original n other) (kept_as r h x y.source) there in
      let not : None ≡ Some original = sym (no_repair r h x y.source) ∙ at.repairs in
      absurd cc
  second_carries r came between after o bytes first second again keeps apart x same (padding h n other opens) p q =
      let there : OpensPadding cipher r packet_bytes h n other = subst (λ (l : List ℕ). OpensPadding cipher r l h n other) same opens in
      let y : Reads h = reads h again keeps (ap (λ (m : ExtensionMap). header_of m packet_bytes) (sym x.transport) ∙ there.reads) in
      let never : is_early_padding (rids_for h r.state.medias) (claims_in r.state.types) h ≡ false =
      ap (λ b. b && is_none h.ext_vals.rid && repairs_expected (rids_for h r.state.medias) h && has_rtx (claims_in r.state.types) h) y.plain in
      absurd (cc (never, there.early))
  second_carries r came between after o bytes first second again keeps apart x same (stays refused others early) p q =
      none_then payload r between after first second x.silent x.quiet p q
