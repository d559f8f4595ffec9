-- The items of a tick that ask for nothing: each is read back, its fields as the wire holds them, and tells nothing that asks.
use Rattle.std.proofs.Common.{◌≡◌, ℕ, zero, suc, ◌+◌, ◌-◌, ◌*◌, ◌/◌, ◌%◌, ◌^◌, ◌<◌, ◌≤◌, Bool, true, false, List, [], ◌∷◌, ◌++◌, length, take, map, Option, Some, None, refl, sym, ap, ◌∙◌, subst, arith}
use Rattle.std.specs.Prelude.{◌&&◌, nat_le, nat_lt, min, pos, ◌-ℤ◌, if◌then◌else◌}
use Rattle.std.specs.List.{AllByRecursion, flat_map}
use Rattle.std.specs.Int.{w16, w32, w64, to_be_bytes}
use Rattle.std.specs.Option.{option_map, option_to_list}
use Rattle.std.proofs.lemmas.Bool.{leb-true, lt-ltb}
use Rattle.std.proofs.lemmas.List.{length-append, length-map, length-take}
use Rattle.media_units.specs.Wallclock.{ntp_of_unix}
use Rattle.media_units.specs.Wallclock.{unix_nanos}
use Rattle.media_units.specs.declared.wallclock.Beginning.{Beginning}
use Rattle.rtp_base.specs.Fields.{bits24, IsSigned24}
use Rattle.rtp_base.specs.declared.reception_report.ReceptionReport.{ReceptionReport}
use Rattle.repair_core.specs.Counts.{Counts, lost_of, report_with}
use Rattle.rtcp_wire.specs.Descriptions.{ended, sdes_item_text, sdes_text, descriptions_body}
use Rattle.rtcp_wire.specs.Extended.{block_content, block_text, dlrr_item_text, extended_report_body}
use Rattle.rtcp_wire.specs.Feedback.{pli_body, fir_body}
use Rattle.rtp_base.specs.ReceptionReport.{IsReceptionReport}
use Rattle.rtcp_wire.specs.Laws.{held, IsDlrrItem, ItemsReadBack, ItemsFitByLengths}
use Rattle.rtcp_wire.specs.Remb.{remb_name, exponent_of, mantissa_of, remb_body}
use Rattle.rtcp_wire.specs.Reports.{receiver_report_body, sender_info_text, sender_report_body}
use Rattle.rtcp_wire.specs.Rows.{report_text, fir_entry_text}
use Rattle.rtcp_wire.specs.Streams.{feedback_of}
use Rattle.rtcp_wire.specs.Texts.{text_of, framed}
use Rattle.rtcp_items.specs.declared.extended.DlrrItem.{DlrrItem}
use Rattle.rtcp_items.specs.declared.extended.ReportBlock.{ReportBlock}
use Rattle.rtcp_items.specs.declared.extended.ReportBlock.TheVariants.{Rrtr, Dlrr}
use Rattle.rtcp_wire.specs.declared.packet.Rtcp.{Rtcp}
use Rattle.rtcp_wire.specs.declared.packet.Rtcp.TheVariants.{SenderReport, ReceiverReport, SourceDescription, ExtendedReport, Pli, Fir, Remb}
use Rattle.rtcp_items.specs.declared.report.SenderInfo.{SenderInfo}
use Rattle.rtcp_wire.specs.declared.rtcp_fb.RtcpFb.TheVariants as told
use Rattle.rtcp_items.specs.declared.source.SdesType.TheVariants.{CNAME}
use Rattle.report_core.specs.LastReport.{block_of}
use Rattle.report_core.specs.Moments.{item_of, items_of}
use Rattle.report_core.specs.Receiver.{receiver_report_of}
use Rattle.report_core.specs.Sender.{report_of, name_of}
use Rattle.report_core.specs.declared.moments.ReceiverMoment.{ReceiverMoment}
use Rattle.stream_core.specs.Reporting.{block_at, greatest_in, report_items, front_items, sender_info_at}
use Rattle.stream_core.specs.Requests.{keyframe_with, bitrate_with, request_items}
use Rattle.stream_core.specs.RxRecord.{RxRecord as StreamRx}
use Rattle.stream_core.specs.TxRecord.{TxRecord as StreamTx}
use Rattle.stream_core.specs.declared.payload_types.TypeRow.{TypeRow}
use Rattle.stream_core.specs.declared.reports.Tick.{Tick}
use Rattle.rtp_base.specs.declared.keyframe_request.KeyframeRequestKind.{KeyframeRequestKind}
use Rattle.rtp_base.specs.declared.keyframe_request.KeyframeRequestKind.TheVariants as kind
use Rattle.stream_core.specs.declared.requests.RxRequests.{RxRequests}
use Rattle.session_core.specs.Reports.{description_items, reports_in, items_under, sender_items_with, sender_items, due_senders, answers}
use Rattle.session_core.specs.SessionRecord.{MediaRecord, SessionState}
use Rattle.run_model.specs.Asking.{IsOther}
use Rattle.session_turns.proofs.Lists.{all_append}
use Rattle.session_turns.proofs.Items.{IsRead, told_of, told_is, same_word}

-- an item that is read back, and as it is held says nothing that asks
pub record IsAside (x : Rtcp) : Type 0 where
  pub reads : IsRead x
  pub others : AllByRecursion IsOther (feedback_of (held reads.read))

aside_told : ItemsReadBack → (x : Rtcp) → IsAside x → AllByRecursion IsOther (told_of x)
aside_told law x a = subst (AllByRecursion IsOther) (sym (told_is law x a.reads)) a.others

pub asides_read : (xs : List Rtcp) → AllByRecursion IsAside xs → AllByRecursion IsRead xs
asides_read [] h = tt
asides_read (x ∷ xs) h = (h.0.reads, asides_read xs h.1)

pub asides_told : ItemsReadBack → (xs : List Rtcp) → AllByRecursion IsAside xs → AllByRecursion IsOther (flat_map told_of xs)
asides_told law [] h = tt
asides_told law (x ∷ xs) h = all_append IsOther (told_of x) (flat_map told_of xs) (aside_told law x h.0) (asides_told law xs h.1)

-- the low 32 bits
abbrev low : ℕ → ℕ
low n = n % 4294967296

is_low : (n : ℕ) → low n < 4294967296
is_low n = omega arith

-- the share lost and the packets lost stand in one word
lost_word : (share lost : ℕ) → to_be_bytes w32 (share * 16777216 + lost) ≡ to_be_bytes w32 (share % 256 * 16777216 + lost)
lost_word share lost =
    let same : (share * 16777216 + lost) % 4294967296 ≡ (share % 256 * 16777216 + lost) % 4294967296 = omega arith in
    same_word (share * 16777216 + lost) ∙ ap (to_be_bytes w32) same ∙ sym (same_word (share % 256 * 16777216 + lost))

-- reports of sources
abbrev low_report : ReceptionReport → ReceptionReport
low_report r = record {
  ssrc = low r.ssrc;
  fraction_lost = r.fraction_lost % 256;
  packets_lost = r.packets_lost;
  max_seq = low r.max_seq;
  jitter = low r.jitter;
  last_sr_time = low r.last_sr_time;
  last_sr_delay = low r.last_sr_delay;
}

same_report : (r : ReceptionReport) → report_text r ≡ report_text (low_report r)
unfolding report_text
same_report r =
    λ i. same_word r.ssrc i ++ (lost_word r.fraction_lost (bits24 r.packets_lost) i ++ (same_word r.max_seq i
    ++ (same_word r.jitter i ++ (same_word r.last_sr_time i ++ (same_word r.last_sr_delay i ++ [])))))

report_fits : (r : ReceptionReport) → IsSigned24 r.packets_lost → IsReceptionReport (low_report r)
report_fits r signed = record {
  ssrc = is_low r.ssrc;
  fraction = omega arith;
  lost = signed;
  greatest = is_low r.max_seq;
  jitter = is_low r.jitter;
  last = is_low r.last_sr_time;
  delay = is_low r.last_sr_delay;
}

-- what is lost has 24 signed bits
minus_signed : (n : ℕ) → n ≤ 8388608 → IsSigned24 (pos 0 -ℤ pos n)
minus_signed zero le = omega arith
minus_signed (suc n) le =
    let below : nat_lt 0 (suc n) ≡ true = lt-ltb 0 (suc n) (omega arith) in
    rw below (omega arith)

lost_signed : (expected received : ℕ) → IsSigned24 (lost_of expected received)
lost_signed expected received =
    elim (nat_le received expected) as (λ b. IsSigned24 (if b then pos (min (expected - received) 8388607) else (pos 0 -ℤ pos (min (received - expected) 8388608)))) [
      | true ↦ omega arith
      | false ↦ minus_signed (min (received - expected) 8388608) (omega arith)
    ]

abbrev IsSigned : ReceptionReport → Type 0
IsSigned r = IsSigned24 r.packets_lost

-- the report of an incoming stream
received_with : (sender : ℕ) (block : Option ReceptionReport) → AllByRecursion IsSigned (option_to_list block) → ItemsFitByLengths → IsAside (ReceiverReport (receiver_report_of sender block))
unfolding text_of receiver_report_body
received_with sender None signed lengths =
    let empty : List ReceptionReport = [] in
    record {
      reads = record {
        read = ReceiverReport (record { sender_ssrc = low sender; reports = empty });
        text = ap (λ (w : List ℕ). framed 0 201 (w ++ [])) (same_word sender);
        held_is = record { writable = lengths (ReceiverReport (record { sender_ssrc = low sender; reports = empty })) (omega arith); fields = (is_low sender, tt) };
      };
      others = tt;
    }
received_with sender (Some r) signed lengths =
    let one : List ReceptionReport = low_report r ∷ [] in
    record {
      reads = record {
        read = ReceiverReport (record { sender_ssrc = low sender; reports = one });
        text = λ i. framed 1 201 (same_word sender i ++ (same_report r i ++ []));
        held_is = record {
          writable = lengths (ReceiverReport (record { sender_ssrc = low sender; reports = one })) (omega arith);
          fields = (is_low sender, (report_fits r signed.0, tt));
        };
      };
      others = (refl, tt);
    }

counted_signed : (x : StreamRx) (now : ℕ) (first greatest : Option ℕ) (c : Counts)
    → AllByRecursion IsSigned (option_to_list (option_map (block_of x.state.ssrc x.state.reports.news.last now) (report_with first greatest c)))
counted_signed x now None greatest c = tt
counted_signed x now (Some first) None c = tt
counted_signed x now (Some first) (Some last) c = (lost_signed (last - first + 1) c.received, tt)

-- the moment of a receiver
moment_aside : (sender : ℕ) (unix : ℕ) → ItemsFitByLengths → IsAside (ExtendedReport (record { ssrc = sender; blocks = Rrtr (record { ntp_time = unix }) ∷ [] }))
unfolding text_of extended_report_body block_text block_content
moment_aside sender unix lengths =
    let block : ReportBlock = Rrtr (record { ntp_time = unix }) in
    let short : 16 < 262144 = omega arith in
    record {
      reads = record {
        read = ExtendedReport (record { ssrc = low sender; blocks = block ∷ [] });
        text = ap (λ (w : List ℕ). framed 0 207 (w ++ (block_text block ++ []))) (same_word sender);
        held_is = record { writable = lengths (ExtendedReport (record { ssrc = low sender; blocks = block ∷ [] })) short; fields = (is_low sender, (tt, tt)) };
      };
      others = (refl, tt);
    }

-- answers to such moments
abbrev low_item : DlrrItem → DlrrItem
low_item d = record { ssrc = low d.ssrc; last_rr_time = low d.last_rr_time; last_rr_delay = low d.last_rr_delay }

same_item : (d : DlrrItem) → dlrr_item_text d ≡ dlrr_item_text (low_item d)
unfolding dlrr_item_text
same_item d = λ i. same_word d.ssrc i ++ (same_word d.last_rr_time i ++ (same_word d.last_rr_delay i ++ []))

same_items : (ds : List DlrrItem) → flat_map dlrr_item_text ds ≡ flat_map dlrr_item_text (map low_item ds)
same_items [] = refl
same_items (d ∷ ds) = let here = same_item d in let rest = same_items ds in λ i. here i ++ rest i

items_fit : (ds : List DlrrItem) → AllByRecursion IsDlrrItem (map low_item ds)
items_fit [] = tt
items_fit (d ∷ ds) = ((is_low d.ssrc, is_low d.last_rr_time, is_low d.last_rr_delay), items_fit ds)

items_other : (ds : List DlrrItem) → AllByRecursion IsOther (map told.DlrrItem ds ++ [])
items_other [] = tt
items_other (d ∷ ds) = (refl, items_other ds)

items_length : (ds : List DlrrItem) → length (flat_map dlrr_item_text ds) ≡ 12 * length ds
unfolding dlrr_item_text
items_length [] = refl
items_length (d ∷ ds) =
    let rest = items_length ds in
    length-append (dlrr_item_text d) (flat_map dlrr_item_text ds) ∙ (omega arith)

answers_length : (sender : ℕ) (ds : List DlrrItem) → length (extended_report_body (record { ssrc = sender; blocks = Dlrr (record { items = ds }) ∷ [] })) ≡ 8 + 12 * length ds
unfolding extended_report_body block_text block_content
answers_length sender ds =
    let rest = items_length ds in
    let all = length-append (block_text (Dlrr (record { items = ds }))) [] in
    omega arith

answers_aside : (sender : ℕ) (ds : List DlrrItem) → length ds ≤ 50 → ItemsFitByLengths → IsAside (ExtendedReport (record { ssrc = sender; blocks = Dlrr (record { items = ds }) ∷ [] }))
unfolding text_of extended_report_body block_text block_content
answers_aside sender ds few lengths =
    let all : List DlrrItem = map low_item ds in
    let block : ReportBlock = Dlrr (record { items = all }) in
    let same = length-map ds low_item in
    let long = answers_length (low sender) all in
    let here = same_word sender in
    let rest = same_items ds in
    record {
      reads = record {
        read = ExtendedReport (record { ssrc = low sender; blocks = block ∷ [] });
        text = λ i. framed 0 207 (here i ++ ((5 ∷ 0 ∷ to_be_bytes w16 (length (rest i) / 4) ++ rest i) ++ []));
        held_is = record {
          writable = lengths (ExtendedReport (record { ssrc = low sender; blocks = block ∷ [] })) (omega arith);
          fields = (is_low sender, ((omega arith, items_fit ds), tt));
        };
      };
      others = items_other all;
    }

-- what a sender says of itself
abbrev low_info : SenderInfo → SenderInfo
low_info s = record {
  ssrc = low s.ssrc;
  ntp_time = s.ntp_time;
  rtp_time = low s.rtp_time;
  sender_packet_count = low s.sender_packet_count;
  sender_octet_count = low s.sender_octet_count;
}

same_info : (s : SenderInfo) → sender_info_text s ≡ sender_info_text (low_info s)
unfolding sender_info_text
same_info s =
    let ssrc = same_word s.ssrc in
    let time = same_word s.rtp_time in
    let packets = same_word s.sender_packet_count in
    let octets = same_word s.sender_octet_count in
    λ i. ssrc i ++ to_be_bytes w64 (ntp_of_unix s.ntp_time) ++ (time i ++ (packets i ++ (octets i ++ [])))

sent_aside : (s : SenderInfo) → ItemsFitByLengths → IsAside (SenderReport (report_of s))
unfolding text_of sender_report_body
sent_aside s lengths = record {
  reads = record {
    read = SenderReport (report_of (low_info s));
    text = ap (λ (w : List ℕ). framed 0 200 (w ++ [])) (same_info s);
    held_is = record {
      writable = lengths (SenderReport (report_of (low_info s))) (omega arith);
      fields = (is_low s.ssrc, is_low s.rtp_time, is_low s.sender_packet_count, is_low s.sender_octet_count, tt);
    };
  };
  others = (refl, tt);
}

-- the name of a source
name_aside : (ssrc : ℕ) (cname : List ℕ) → length cname ≤ 255 → ItemsFitByLengths → IsAside (SourceDescription (name_of ssrc cname))
unfolding text_of descriptions_body sdes_text
name_aside ssrc cname short lengths =
    let values = flat_map sdes_item_text ((record { kind = CNAME; text = cname }) ∷ []) in
    record {
      reads = record {
        read = SourceDescription (name_of (low ssrc) cname);
        text = ap (λ (w : List ℕ). framed 1 202 (ended (w ++ values) ++ [])) (same_word ssrc);
        held_is = record {
          writable = lengths (SourceDescription (name_of (low ssrc) cname)) (omega arith, ((omega arith, ((omega arith, short), tt)), tt));
          fields = ((is_low ssrc, (refl, tt)), tt);
        };
      };
      others = (refl, tt);
    }

-- requests for a key frame, and a rate, which has 64 bits
picture_aside : (sender ssrc : ℕ) → ItemsFitByLengths → IsAside (Pli (record { sender_ssrc = sender; ssrc = ssrc }))
unfolding text_of pli_body
picture_aside sender ssrc lengths =
    let own = same_word sender in
    let media = same_word ssrc in
    record {
      reads = record {
        read = Pli (record { sender_ssrc = low sender; ssrc = low ssrc });
        text = λ i. framed 1 206 (own i ++ (media i ++ []));
        held_is = record { writable = lengths (Pli (record { sender_ssrc = low sender; ssrc = low ssrc })) tt; fields = (is_low sender, is_low ssrc) };
      };
      others = (refl, tt);
    }

intra_aside : (sender ssrc number : ℕ) → ItemsFitByLengths → IsAside (Fir (record { sender_ssrc = sender; reports = record { ssrc = ssrc; seq_no = number } ∷ [] }))
unfolding text_of fir_body fir_entry_text
intra_aside sender ssrc number lengths =
    let own = same_word sender in
    let media = same_word ssrc in
    record {
      reads = record {
        read = Fir (record { sender_ssrc = low sender; reports = record { ssrc = low ssrc; seq_no = number } ∷ [] });
        text = λ i. framed 4 206 ((own i ++ (to_be_bytes w32 0 ++ [])) ++ ((media i ++ (number ∷ 0 ∷ 0 ∷ 0 ∷ [])) ++ []));
        held_is = record {
          writable = lengths (Fir (record { sender_ssrc = low sender; reports = record { ssrc = low ssrc; seq_no = number } ∷ [] })) (omega arith);
          fields = (is_low sender, omega arith, (is_low ssrc, tt));
        };
      };
      others = (refl, tt);
    }

rate_aside : (sender ssrc rate : ℕ) → rate < 2 ^ 64 → ItemsFitByLengths → IsAside (Remb (record { sender_ssrc = sender; bitrate = rate; ssrcs = ssrc ∷ [] }))
unfolding text_of remb_body
rate_aside sender ssrc rate small lengths =
    let own = same_word sender in
    let media = same_word ssrc in
    let parts : ℕ = 1 * 16777216 + exponent_of rate * 262144 + mantissa_of rate in
    record {
      reads = record {
        read = Remb (record { sender_ssrc = low sender; bitrate = rate; ssrcs = low ssrc ∷ [] });
        text = λ i. framed 15 206 ((own i ++ (to_be_bytes w32 0 ++ (to_be_bytes w32 remb_name ++ (to_be_bytes w32 parts ++ [])))) ++ (media i ++ []));
        held_is = record {
          writable = lengths (Remb (record { sender_ssrc = low sender; bitrate = rate; ssrcs = low ssrc ∷ [] })) (omega arith);
          fields = (is_low sender, small, (is_low ssrc, tt));
        };
      };
      others = (refl, tt);
    }

-- what an incoming stream asks its sender for and reports, what outgoing ones report, and the answers
module _ (lengths : ItemsFitByLengths) where
  keyframe_asides : (sender ssrc number : ℕ) (o : Option KeyframeRequestKind) → AllByRecursion IsAside (keyframe_with sender ssrc number o)
  keyframe_asides sender ssrc number None = tt
  keyframe_asides sender ssrc number (Some kind.Pli) = (picture_aside sender ssrc lengths, tt)
  keyframe_asides sender ssrc number (Some kind.Fir) = (intra_aside sender ssrc number lengths, tt)

  bitrate_asides : (sender ssrc : ℕ) (o : Option ℕ) → AllByRecursion IsAside (bitrate_with sender ssrc o)
  bitrate_asides sender ssrc None = tt
  bitrate_asides sender ssrc (Some rate) = (rate_aside sender ssrc (min rate 10000000000) (omega arith) lengths, tt)

  request_asides : (sender ssrc : ℕ) (q : RxRequests) → AllByRecursion IsAside (request_items sender ssrc q)
  request_asides sender ssrc q =
      all_append IsAside (keyframe_with sender ssrc q.fir_number q.keyframe) (bitrate_with sender ssrc q.bitrate)
      (keyframe_asides sender ssrc q.fir_number q.keyframe) (bitrate_asides sender ssrc q.bitrate)

  report_asides : (t : Tick) (x : StreamRx) → AllByRecursion IsAside (report_items t x)
  report_asides t x = (
    received_with t.sender_ssrc (block_at t.now x) (counted_signed x t.now x.state.reports.counts.first (greatest_in x.numbers) x.state.reports.counts) lengths,
    (moment_aside t.sender_ssrc (unix_nanos t.beginning.unix_secs t.now) lengths, tt),
  )

  reports_aside : (t : Tick) (reports : Bool) (x : StreamRx) → AllByRecursion IsAside (if reports then report_items t x else [])
  reports_aside t true x = report_asides t x
  reports_aside t false x = tt

  pub front_asides : (t : Tick) (reports : Bool) (x : StreamRx) → AllByRecursion IsAside (front_items t reports x)
  front_asides t reports x =
      all_append IsAside (request_items t.sender_ssrc x.state.ssrc x.state.requests) (if reports then report_items t x else [])
      (request_asides t.sender_ssrc x.state.ssrc x.state.requests) (reports_aside t reports x)

  description_asides : (ssrc : ℕ) (cname : List ℕ) → AllByRecursion IsAside (description_items ssrc cname)
  description_asides ssrc cname = by (nat_lt 0 (length cname)) (nat_le (length cname) 255) (leb-true (length cname) 255) where
    by : (a b : Bool) → (b ≡ true → length cname ≤ 255) → AllByRecursion IsAside (if a && b then SourceDescription (name_of ssrc cname) ∷ [] else [])
    by true true short = (name_aside ssrc cname (short refl) lengths, tt)
    by true false short = tt
    by false b short = tt

  under_asides : (types : List (ℕ × TypeRow)) (beginning : Beginning) (now : ℕ) (x : StreamTx) (o : Option MediaRecord) → AllByRecursion IsAside (items_under types beginning now x o)
  under_asides types beginning now x None = tt
  under_asides types beginning now x (Some m) = (sent_aside (sender_info_at types now beginning x) lengths, description_asides x.ssrc m.cname)

  senders_aside : (types : List (ℕ × TypeRow)) (beginning : Beginning) (medias : List MediaRecord) (now : ℕ) (mids : List (List ℕ)) (es : List (ℕ × StreamTx))
      → AllByRecursion IsAside (sender_items_with types beginning medias now mids es)
  senders_aside types beginning medias now mids [] = tt
  senders_aside types beginning medias now mids (e ∷ es) =
      all_append IsAside (items_under types beginning now e.1 (reports_in mids medias e.1)) (sender_items_with types beginning medias now mids es)
      (under_asides types beginning now e.1 (reports_in mids medias e.1)) (senders_aside types beginning medias now mids es)

  pub sender_asides : (now : ℕ) (s : SessionState) → AllByRecursion IsAside (sender_items now s)
  sender_asides now s = senders_aside s.types s.transport.beginning s.medias now (due_senders now s) s.tx

  few_answers : (now : ℕ) (ms : List ReceiverMoment) → length (items_of now ms) ≤ 50
  few_answers now ms =
      let same = length-map (take 50 ms) (item_of now) in
      let most = length-take 50 ms in
      omega arith

  answer_asides : (now sender : ℕ) (ms : List ReceiverMoment) → AllByRecursion IsAside (answers now sender ms)
  answer_asides now sender [] = tt
  answer_asides now sender (m ∷ ms) = (answers_aside sender (items_of now (m ∷ ms)) (few_answers now (m ∷ ms)) lengths, tt)

  pub answers_if : (b : Bool) (now sender : ℕ) (ms : List ReceiverMoment) → AllByRecursion IsAside (if b then answers now sender ms else [])
  answers_if true now sender ms = answer_asides now sender ms
  answers_if false now sender ms = tt
