-- What a session opens is a seal of the plain datagram that it tells of.
use Rattle.std.proofs.Common.{◌≡◌, inl, inr, ℕ, zero, suc, ◌+◌, ◌*◌, ◌/◌, ◌%◌, ◌<◌, Bool, true, false, List, [], ◌∷◌, ◌++◌, take, slice_get, get_or, Option, Some, None, refl, sym, ap, ◌∙◌, subst, arith}
use Rattle.std.specs.Prelude.{◌==◌, if◌then◌else◌, unwrap_or}
use Rattle.std.specs.List.{AllByRecursion, AllZip}
use Rattle.std.specs.Map.{values_of}
use Rattle.std.specs.Option.{option_map}
use Rattle.rtp_base.specs.Widen.{widen16, rollover}
use Rattle.rtp_wire.specs.declared.extension.ExtensionMap.{ExtensionMap}
use Rattle.rtp_wire.specs.declared.header.RtpHeader.{RtpHeader}
use Rattle.rtp_wire.specs.Header.{header_of}
use Rattle.rtp_wire.specs.HeaderLaws.{ReadsOwnBytes}
use Rattle.repair_core.specs.Fresh.{greatest_of, is_fresh}
use Rattle.rtx_core.specs.Repairs.{repair_near, is_fresh_repair}
use Rattle.srtp_core.specs.Cipher.{CipherMeaning}
use Rattle.srtp_core.specs.Contexts.{SrtpState}
use Rattle.srtp_core.specs.Seals.{sealed_rtp, OpensTo}
use Rattle.srtp_core.specs.RtcpSeals.{RtcpOpensTo}
use Rattle.stream_core.specs.RxRecord.{RxRecord, taken_of, number_with, fresh_number}
use Rattle.stream_core.specs.RxRepairs.{own_number, fresh_repair}
use Rattle.stream_core.specs.Seen.{seen_of, is_unseen}
use Rattle.stream_core.specs.StreamsRecord.{accepted}
use Rattle.stream_core.specs.Tables.{value_under, place_of}
use Rattle.session_core.specs.declared.datagram.Opened.{Opened as Opening}
use Rattle.session_core.specs.Hearing.{ReceivesRtcp, RtcpOpensIn, opened as heard, stays as ignored, rtcp_opening_of}
use Rattle.session_core.specs.Repairs.{padded_accepted, repair_accepted}
use Rattle.session_core.specs.Receiving.{number_of, OpensIn, Takes, takes_packet, takes_repair, takes_nothing, HeaderNumbersFit, opening_of}
use Rattle.session_core.specs.SessionRecord.{SessionRecord}
use Rattle.run_model.specs.Events.{Incoming}
use Rattle.run_model.specs.RxPlay.{RxRecord as PlainRx}
use Rattle.session_turns.specs.Reading.{len_in}
use Rattle.session_turns.specs.Mirrors.{RxStands, RxMirror, rx_mirror}
use Rattle.session_turns.specs.Laws.{MapsNothing}
use Rattle.session_turns.specs.Rights.{IsRightOpening, OpeningsAreRight, IsRightRtcpOpening, RtcpOpeningsAreRight}
use Rattle.session_turns.proofs.Tests.{some_and_then, tested}

-- a number is as its low 16 bits say
low_of : (r q : ℕ) → q < 65536 → (r * 65536 + q) % 65536 ≡ q
low_of r q lt = omega arith

widened_low : (o : Option ℕ) (q : ℕ) → q < 65536 → widen16 o q % 65536 ≡ q
widened_low None q lt = omega arith
widened_low (Some p) q lt = low_of (rollover 32768 (p / 65536) (p % 65536) q) q lt

-- a number that is given where it passes a test is the one that is tested
given_as : (b : Bool) (m n : ℕ) → (if b then Some m else None) ≡ Some n → m ≡ n
given_as true m n e = cc
given_as false m n e = absurd cc

fresh_low : (remembered : Option ℕ) (x : RxRecord) (low n : ℕ) → x.state.roc ≡ None → low < 65536 → fresh_number remembered x low ≡ Some n → low ≡ n % 65536
fresh_low remembered x low n roc lt e =
    let l : List ℕ = taken_of remembered x in
    let is : number_with x.state.roc l low ≡ n = given_as (is_fresh l (number_with x.state.roc l low)) (number_with x.state.roc l low) n e in
    let wide : widen16 (greatest_of l) low ≡ n = ap (λ (o : Option ℕ). number_with o l low) (sym roc) ∙ is in
    sym (ap (λ (m : ℕ). m % 65536) (sym wide) ∙ widened_low (greatest_of l) low lt)

own_low : (seen : Option ℕ) (x : RxRecord) (low n : ℕ) → low < 65536 → own_number seen x low ≡ n → low ≡ n % 65536
own_low seen x low n lt e = sym (ap (λ (m : ℕ). m % 65536) (sym e) ∙ widened_low (repair_near seen x.repairs) low lt)

padded_low : (seen : List (ℕ × List ℕ)) (h : RtpHeader) (x : RxRecord) (n : ℕ) → h.sequence_number < 65536 → padded_accepted seen h x ≡ Some n
    → h.sequence_number ≡ n % 65536
padded_low seen h x n lt e =
    let own : ℕ = own_number (seen_of h.ssrc seen) x h.sequence_number in
    own_low (seen_of h.ssrc seen) x h.sequence_number n lt (given_as (is_unseen h.ssrc own seen) own n e)

fresh_repair_low : (seen : Option ℕ) (x : RxRecord) (low n : ℕ) → low < 65536 → fresh_repair seen x low ≡ Some n → low ≡ n % 65536
fresh_repair_low seen x low n lt e =
    own_low seen x low n lt (given_as (is_fresh_repair seen x.repairs (own_number seen x low)) (own_number seen x low) n e)

repair_low : (seen : List (ℕ × List ℕ)) (h : RtpHeader) (x : RxRecord) (n : ℕ) → h.sequence_number < 65536 → repair_accepted seen h x ≡ Some n
    → h.sequence_number ≡ n % 65536
repair_low seen h x n lt e =
    elim (tested h.has_padding) [
      | inl t ↦ padded_low seen h x n lt (rw t at e)
      | inr t ↦ fresh_repair_low (seen_of h.ssrc seen) x h.sequence_number n lt (rw t at e)
    ]

-- no stream has a rollover count that was set
pub record HasNoCount (e : ℕ × RxRecord) : Type 0 where
  pub none : e.1.state.roc ≡ None

no_counts : (threshold : ℕ) (trip : Option ℕ) (seen : List (ℕ × List ℕ)) (xs : List (ℕ × RxRecord)) (ys : List (Incoming × PlainRx)) → AllZip (RxStands threshold trip seen) xs ys
    → AllByRecursion HasNoCount xs
no_counts threshold trip seen [] ys h = tt
no_counts threshold trip seen (x ∷ xs) [] h = absurd h
no_counts threshold trip seen (x ∷ xs) (y ∷ ys) h = (record { none = h.0.mirrors.roc }, no_counts threshold trip seen xs ys h.1)

count_at : (xs : List (ℕ × RxRecord)) (i : ℕ) (x : RxRecord) → AllByRecursion HasNoCount xs → slice_get (values_of xs) i ≡ Some x → x.state.roc ≡ None
count_at [] i x h e = absurd cc
count_at (y ∷ xs) zero x h e = let same : y.1 ≡ x = cc in ap (λ (z : RxRecord). z.state.roc) (sym same) ∙ h.0.none
count_at (y ∷ xs) (suc i) x h e = count_at xs i x h.1 e

count_under : (xs : List (ℕ × RxRecord)) (k : ℕ) (x : RxRecord) → AllByRecursion HasNoCount xs → value_under k xs ≡ Some x → x.state.roc ≡ None
count_under xs k x h e = let at = some_and_then (slice_get (values_of xs)) (place_of k xs) x e in count_at xs at.0 x h at.2

accepted_low : (remembered : Option ℕ) (xs : List (ℕ × RxRecord)) (ssrc low n : ℕ) → AllByRecursion HasNoCount xs → low < 65536 → accepted remembered xs ssrc low ≡ Some n
    → low ≡ n % 65536
accepted_low remembered xs ssrc low n h lt e =
    let at = some_and_then (λ (x : RxRecord). fresh_number remembered x low) (value_under ssrc xs) n e in
    fresh_low remembered at.0 low n (count_under xs ssrc at.0 h at.1) lt at.2

number_low : (remembered : Option ℕ) (xs : List (ℕ × RxRecord)) (probes : RxRecord) (ssrc low n : ℕ) → AllByRecursion HasNoCount xs → probes.state.roc ≡ None → low < 65536
    → number_of remembered xs probes ssrc low ≡ Some n → low ≡ n % 65536
number_low remembered xs probes ssrc low n h none lt e =
    elim (tested (ssrc == 0)) [
      | inl t ↦ fresh_low remembered probes low n none lt (rw t at e)
      | inr t ↦ accepted_low remembered xs ssrc low n h lt (rw t at e)
    ]

-- what a payload that opens under a header makes
right_as : (cipher : CipherMeaning) (exts : ExtensionMap) (other : SrtpState) (bytes : List ℕ) (h : RtpHeader) (n : ℕ) (payload : List ℕ) → ReadsOwnBytes
    → header_of exts bytes ≡ Some h → h.sequence_number ≡ n % 65536 → OpensTo cipher other.profile other.keys h.ssrc n h.header_len bytes payload
    → IsRightOpening cipher exts other bytes (opening_of bytes h n payload)
right_as cipher exts other bytes h n payload own reads low to =
    let again : header_of exts (take h.header_len bytes ++ payload) ≡ Some h = (own exts bytes payload h reads).0 in
    let len : len_in exts (take h.header_len bytes ++ payload) ≡ h.header_len =
    ap (λ (o : Option RtpHeader). unwrap_or (option_map (λ (g : RtpHeader). g.header_len) o) 0) again in
    record {
      rtp = refl;
      header = h;
      reads = again;
      source = refl;
      low = low;
      sealed = ap (λ (m : ℕ). sealed_rtp cipher other.profile other.keys h.ssrc n m (take h.header_len bytes ++ payload)) len ∙ to.seal;
    }

opens_with : (cipher : CipherMeaning) (o : Option SrtpState) (other : SrtpState) (h : RtpHeader) (n : ℕ) (bytes payload : List ℕ) → o ≡ Some other → OpensIn cipher o h n bytes payload
    → OpensTo cipher other.profile other.keys h.ssrc n h.header_len bytes payload
opens_with cipher o other h n bytes payload e opens = subst (λ (k : Option SrtpState). OpensIn cipher k h n bytes payload) e opens

module _ (cipher : CipherMeaning) (r : SessionRecord) (other : SrtpState) (time : ℕ) (bytes : List ℕ) (own : ReadsOwnBytes) (fit : HeaderNumbersFit)
    (counts : AllByRecursion HasNoCount r.rx) (none : r.probes.state.roc ≡ None) (are : (i : ℕ) → get_or bytes i 0 < 256) (key : r.state.opening ≡ Some other) where
  opened_right : (after : SessionRecord) (o : Option Opening) (p : Opening) → o ≡ Some p → Takes cipher r bytes time after o
      → IsRightOpening cipher r.state.transport.exts other bytes p
  opened_right _ _ p e (takes_packet h n payload opens) =
      let same : opening_of bytes h n payload ≡ p = cc in
      let lt : h.sequence_number < 65536 = fit r.state.transport.exts bytes h are opens.reads in
      let low : h.sequence_number ≡ n % 65536 = number_low (seen_of h.ssrc r.seen) r.rx r.probes h.ssrc h.sequence_number n counts none lt opens.accepts in
      subst (IsRightOpening cipher r.state.transport.exts other bytes) same
      (right_as cipher r.state.transport.exts other bytes h n payload own opens.reads low
      (opens_with cipher r.state.opening other h n bytes payload key opens.opens))
  opened_right _ _ p e (takes_repair h original n payload opens) =
      let same : opening_of bytes h n payload ≡ p = cc in
      let lt : h.sequence_number < 65536 = fit r.state.transport.exts bytes h are opens.reads in
      let at = some_and_then (repair_accepted r.seen h) (value_under original r.rx) n opens.accepts in
      let low : h.sequence_number ≡ n % 65536 = repair_low r.seen h at.0 n lt at.2 in
      subst (IsRightOpening cipher r.state.transport.exts other bytes) same
      (right_as cipher r.state.transport.exts other bytes h n payload own opens.reads low
      (opens_with cipher r.state.opening other h n bytes payload key opens.opens))
  opened_right _ _ p e (takes_nothing no_packet no_repair) = absurd cc

mirror_counts : (threshold : ℕ) (trip : Option ℕ) (r : SessionRecord) (ss : List (Incoming × PlainRx)) → RxMirror threshold trip r ss
    → (r.probes.state.roc ≡ None) × AllByRecursion HasNoCount r.rx
mirror_counts threshold trip r _ (rx_mirror s rest is probes stands) = (probes.roc, no_counts threshold trip r.seen r.rx rest stands)

pub openings_are_right : ReadsOwnBytes → HeaderNumbersFit → MapsNothing → OpeningsAreRight
openings_are_right own fit alone cipher C side r after a other time bytes o mirrors key are receives =
    let counts = mirror_counts C.threshold a.rx.trip r a.rx.table mirrors.rx in
    opened_right cipher r other time bytes own fit counts.1 counts.0 are key after (Some o) o refl (alone cipher C side r after a time bytes (Some o) mirrors receives)

-- RTCP
rtcp_right : (cipher : CipherMeaning) (opening : Option SrtpState) (other : SrtpState) (bytes plain : List ℕ) → opening ≡ Some other → RtcpOpensIn cipher opening bytes plain
    → IsRightRtcpOpening cipher other bytes (rtcp_opening_of opening bytes plain)
rtcp_right cipher opening other bytes plain e opens =
    let to : RtcpOpensTo cipher other.profile other.keys bytes plain = subst (λ (k : Option SrtpState). RtcpOpensIn cipher k bytes plain) e opens in
    subst (λ (k : Option SrtpState). IsRightRtcpOpening cipher other bytes (rtcp_opening_of k bytes plain)) (sym e)
    (record { rtcp = refl; header = to.header; source = refl; stated = refl; sealed = to.seal })

heard_right : (cipher : CipherMeaning) (r : SessionRecord) (other : SrtpState) (time : ℕ) (bytes : List ℕ) (after : SessionRecord) (o : Option Opening) (p : Opening) → o ≡ Some p
    → r.state.opening ≡ Some other → ReceivesRtcp cipher r bytes time after o → IsRightRtcpOpening cipher other bytes p
heard_right cipher r other time bytes _ _ p e key (heard plain repairs opens by) =
    let same : rtcp_opening_of r.state.opening bytes plain ≡ p = cc in
    subst (IsRightRtcpOpening cipher other bytes) same (rtcp_right cipher r.state.opening other bytes plain key opens)
heard_right cipher r other time bytes _ _ p e key (ignored no_packet) = absurd cc

pub rtcp_openings_are_right : RtcpOpeningsAreRight
rtcp_openings_are_right cipher r after other time bytes o key receives = heard_right cipher r other time bytes after (Some o) o refl key receives
