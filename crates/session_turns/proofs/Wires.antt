-- How what a stream gives to be sealed is read again.
use Rattle.std.proofs.Common.{◌≡◌, ℕ, ◌-◌, ◌≤◌, ◌<◌, ◌%◌, ◌^◌, Bool, false, List, ◌++◌, length, take, drop, replicate, Option, Some, refl, sym, ap, ◌∙◌, arith}
use Rattle.std.specs.Prelude.{unwrap_or}
use Rattle.std.specs.Option.{option_map}
use Rattle.std.proofs.lemmas.List.{length-append, length-replicate, take_at, drop_at}
use Rattle.rtp_wire.specs.declared.extension.ExtensionMap.{ExtensionMap}
use Rattle.rtp_wire.specs.declared.header.RtpHeader.{RtpHeader}
use Rattle.rtp_wire.specs.declared.values.ExtensionValues.{ExtensionValues}
use Rattle.rtp_wire.specs.BytesLaws.{AreWords}
use Rattle.rtp_wire.specs.Extensions.{no_values}
use Rattle.rtp_wire.specs.Header.{csrc_of, header_of, header_bytes, wire_form}
use Rattle.rtp_wire.specs.HeaderLaws.{WrittenIsReadAgain, IsHeader}
use Rattle.srtp_core.specs.Cipher.{CipherMeaning}
use Rattle.srtp_core.specs.Contexts.{SrtpState}
use Rattle.srtp_core.specs.Seals.{sealed_rtp}
use Rattle.stream_core.specs.declared.stream_tx.PacketReceipt.{PacketReceipt}
use Rattle.stream_core.specs.declared.transport.Transport.{Transport}
use Rattle.stream_core.specs.Sealing.{with_values}
use Rattle.session_core.specs.Sending.{sealed_as}
use Rattle.run_model.specs.Events.{Plain, Event, sealed}
use Rattle.run_model.specs.Seals.{Sealing, IsSeal}
use Rattle.session_turns.specs.Reading.{plain_of, read_of, reading, len_in, no_plain, plain_in, sealing_of, event_of}
use Rattle.session_turns.proofs.Headers.{zeros_fit, words_fit}

-- what a stream gives is read so, and is sealed behind the header that it reads as
pub record IsRead (exts : ExtensionMap) (p : PacketReceipt) (ssrc n : ℕ) (plain : Plain) : Type 0 where
  pub ssrc_is : p.header.ssrc ≡ ssrc
  pub number : p.seq_no ≡ n
  pub reads : reading exts p.plain ≡ Some (ssrc, n % 65536, plain)
  pub len : p.header.header_len ≡ len_in exts p.plain
  pub plain_is : plain_in exts p.plain ≡ plain

module _ (cipher : CipherMeaning) (own : SrtpState) (exts : ExtensionMap) where
  abbrev pub seal : Sealing
  seal = sealing_of cipher exts own

  -- the event of a datagram
  abbrev pub event_given : PacketReceipt → Event
  event_given p = event_of exts (sealed_as cipher own p)

  abbrev pub bytes_given : PacketReceipt → List ℕ
  bytes_given p = sealed_rtp cipher own.profile own.keys p.header.ssrc p.seq_no p.header.header_len p.plain

  pub event_is : (p : PacketReceipt) (ssrc n : ℕ) (plain : Plain) → IsRead exts p ssrc n plain → event_given p ≡ sealed ssrc n plain (bytes_given p)
  event_is p ssrc n plain h =
      ap (λ (s : ℕ). sealed s p.seq_no (plain_in exts p.plain) (bytes_given p)) h.ssrc_is
      ∙ ap (λ (k : ℕ). sealed ssrc k (plain_in exts p.plain) (bytes_given p)) h.number
      ∙ ap (λ (q : Plain). sealed ssrc n q (bytes_given p)) h.plain_is

  pub seal_is : (p : PacketReceipt) (ssrc n : ℕ) (plain : Plain) → IsRead exts p ssrc n plain → IsSeal seal ssrc n plain (bytes_given p)
  seal_is p ssrc n plain h = record {
    plain = p.plain;
    reads = h.reads;
    sealed =
        sym (ap (λ (s : ℕ). sealed_rtp cipher own.profile own.keys s p.seq_no p.header.header_len p.plain) h.ssrc_is
        ∙ ap (λ (k : ℕ). sealed_rtp cipher own.profile own.keys ssrc k p.header.header_len p.plain) h.number
        ∙ ap (λ (l : ℕ). sealed_rtp cipher own.profile own.keys ssrc n l p.plain) h.len);
  }

-- a header with these fields
abbrev pub base : (ssrc low pt time : ℕ) → Bool → List ℕ → RtpHeader
base ssrc low pt time marker csrc = record {
  has_padding = false;
  marker = marker;
  payload_type = pt;
  sequence_number = low;
  timestamp = time;
  ssrc = ssrc;
  csrc_count = length csrc;
  csrc = csrc ++ replicate (15 - length csrc) 0;
  ext_vals = no_values;
  header_len = 0;
}

-- the length that a header tells does not stand in its bytes
tells_length : (t : Transport) (exts : ExtensionMap) (h : RtpHeader) (values : ExtensionValues) → t.exts ≡ exts
    → (with_values t h values).header_len ≡ length (header_bytes exts (with_values t h values))
unfolding header_bytes
tells_length t exts h values ids = ap (λ (x : ExtensionMap). length (header_bytes x (record h { ext_vals = values }))) ids

wire_len : (exts : ExtensionMap) (h : RtpHeader) → (wire_form exts h).header_len ≡ length (header_bytes exts h)
unfolding wire_form
wire_len exts h = refl

module _ (exts : ExtensionMap) (again : WrittenIsReadAgain) (t : Transport) (ids : t.exts ≡ exts) (ssrc n pt time : ℕ) (marker : Bool) (csrc payload : List ℕ) (values : ExtensionValues)
    (is_ssrc : ssrc < 2 ^ 32) (is_pt : pt < 2 ^ 7) (is_time : time < 2 ^ 32) (few : length csrc ≤ 15) (words : AreWords csrc) where
  abbrev head : RtpHeader
  head = with_values t (base ssrc (n % 65536) pt time marker csrc) values

  abbrev zeros : List ℕ
  zeros = replicate (15 - length csrc) 0

  abbrev pub receipt : PacketReceipt
  receipt = record { header = head; seq_no = n; plain = header_bytes t.exts head ++ payload }

  abbrev pub plain_given : Plain
  plain_given = record { pt = pt; padded = false; marker = marker; time = time; csrc = csrc; payload = payload }

  own_sources : csrc_of head ≡ csrc
  own_sources = take_at csrc zeros (length csrc) refl

  fits : IsHeader head
  fits = record {
    number = omega arith;
    time = is_time;
    source = is_ssrc;
    few = few;
    room = omega (arith, few, length-append csrc zeros, length-replicate {A = ℕ} (15 - length csrc) 0);
    words = words_fit csrc zeros words (zeros_fit (15 - length csrc));
  }

  written : receipt.plain ≡ header_bytes exts head ++ payload
  written = ap (λ (x : ExtensionMap). header_bytes x head ++ payload) ids

  reads_header : header_of exts receipt.plain ≡ Some (wire_form exts head)
  reads_header = ap (header_of exts) written ∙ again exts head fits payload

  wire_plain : plain_of (wire_form exts head) receipt.plain ≡ plain_given
  unfolding wire_form
  wire_plain =
      let small : pt % 128 ≡ pt = omega arith in
      let sources : take (length csrc) (csrc_of head ++ zeros) ≡ csrc = ap (λ (l : List ℕ). take (length csrc) (l ++ zeros)) own_sources ∙ take_at csrc zeros (length csrc) refl in
      let behind : drop (length (header_bytes exts head)) receipt.plain ≡ payload =
      ap (drop (length (header_bytes exts head))) written ∙ drop_at (header_bytes exts head) payload (length (header_bytes exts head)) refl in
      λ i. record { pt = small i; padded = false; marker = marker; time = time; csrc = sources i; payload = behind i }

  wire_read : read_of (wire_form exts head) receipt.plain ≡ (ssrc, n % 65536, plain_of (wire_form exts head) receipt.plain)
  unfolding wire_form
  wire_read = refl

  pub is_read : IsRead exts receipt ssrc n plain_given
  is_read = record {
    ssrc_is = refl;
    number = refl;
    reads =
        ap (option_map (λ (h : RtpHeader). read_of h receipt.plain)) reads_header
        ∙ ap (λ (x : ℕ × ℕ × Plain). Some x) wire_read
        ∙ ap (λ (q : Plain). Some (ssrc, n % 65536, q)) wire_plain;
    len =
        tells_length t exts (base ssrc (n % 65536) pt time marker csrc) values ids
        ∙ sym (wire_len exts head)
        ∙ sym (ap (λ (o : Option RtpHeader). unwrap_or (option_map (λ (h : RtpHeader). h.header_len) o) 0) reads_header);
    plain_is = ap (λ (o : Option RtpHeader). unwrap_or (option_map (λ h. plain_of h receipt.plain) o) no_plain) reads_header ∙ wire_plain;
  }
