-- A packet that a stream gives to be sealed is right: its header is read again as it is written.
use Rattle.std.proofs.Common.{◌≡◌, ℕ, zero, suc, ◌-◌, ◌%◌, ◌<◌, ◌≤◌, ◌^◌, true, false, List, [], ◌∷◌, ◌++◌, length, drop, replicate, Option, Some, refl, sym, ap, ◌∙◌, arith}
use Rattle.std.specs.Prelude.{unwrap_or}
use Rattle.std.specs.Int.{w16, to_be_bytes}
use Rattle.std.specs.List.{list_any}
use Rattle.std.specs.Option.{option_map}
use Rattle.std.proofs.lemmas.List.{length-append, length-replicate, drop_at}
use Rattle.rtp_wire.specs.declared.header.RtpHeader.{RtpHeader}
use Rattle.rtp_wire.specs.declared.values.ExtensionValues.{ExtensionValues}
use Rattle.rtp_wire.specs.BytesLaws.{AreWords}
use Rattle.rtp_wire.specs.Header.{header_of, header_bytes, wire_form}
use Rattle.rtp_wire.specs.HeaderLaws.{WrittenIsReadAgain, IsHeader}
use Rattle.srtp_core.specs.Cipher.{CipherMeaning}
use Rattle.srtp_core.specs.Contexts.{SrtpState}
use Rattle.srtp_core.specs.Seals.{sealed_rtp}
use Rattle.stream_core.specs.declared.packet.RtpPacket.{RtpPacket}
use Rattle.stream_core.specs.declared.stream_tx.PacketReceipt.{PacketReceipt}
use Rattle.stream_core.specs.declared.transport.Transport.{Transport}
use Rattle.stream_core.specs.Repairing.{SentPacket, repair_of, repair_values}
use Rattle.stream_core.specs.Sealing.{sealed_values, with_values}
use Rattle.stream_core.specs.TxRecord.{TxRecord, receipt_of}
use Rattle.session_core.specs.Sending.{sealed_as}
use Rattle.media_model.specs.declared.entry.Write.{Write}
use Rattle.run_model.specs.Events.{Outgoing}
use Rattle.run_model.specs.Tables.{has}
use Rattle.session_turns.specs.Reading.{len_in}
use Rattle.session_turns.specs.Mirrors.{IsGiven, packet_at}
use Rattle.session_turns.specs.Rights.{IsRightRtp}

-- a packet that may be sealed: its fields fit, and its header has the low bits of its number and no padding
pub record IsFine (p : RtpPacket) : Type 0 where
  pub number : p.seq_no < 2 ^ 48
  pub low : p.header.sequence_number ≡ p.seq_no % 65536
  pub unpadded : p.header.has_padding ≡ false
  pub time : p.header.timestamp < 2 ^ 32
  pub few : p.header.csrc_count ≤ 15
  pub room : length p.header.csrc ≡ 15
  pub words : AreWords p.header.csrc

pub zeros_fit : (n : ℕ) → AreWords (replicate n 0)
zeros_fit zero = tt
zeros_fit (suc n) = (omega arith, zeros_fit n)

pub words_fit : (xs ys : List ℕ) → AreWords xs → AreWords ys → AreWords (xs ++ ys)
words_fit [] ys h k = k
words_fit (x ∷ xs) ys h k = (h.0, words_fit xs ys h.1 k)

-- that of a write
pub given_fine : (stamp : Option ℕ) (ssrc : ℕ) (w : Write) → IsGiven ssrc w → IsFine (packet_at stamp w)
given_fine stamp ssrc w g =
    let few = g.few in record {
      number = g.number;
      low = refl;
      unpadded = refl;
      time = g.time;
      few = g.few;
      room = omega (arith, few, length-append w.csrc (replicate (15 - length w.csrc) 0), length-replicate {A = ℕ} (15 - length w.csrc) 0);
      words = words_fit w.csrc (replicate (15 - length w.csrc) 0) g.sources (zeros_fit (15 - length w.csrc));
    }

-- the length that a header tells does not stand in its bytes
tells_length : (t : Transport) (h : RtpHeader) (values : ExtensionValues) → (with_values t h values).header_len ≡ length (header_bytes t.exts (with_values t h values))
unfolding header_bytes
tells_length t h values = refl

module _ (again : WrittenIsReadAgain) (cipher : CipherMeaning) (own : SrtpState) (lines : List Outgoing) (t : Transport) (h : RtpHeader) (values : ExtensionValues) (n : ℕ)
    (body : List ℕ) where
  abbrev head : RtpHeader
  head = with_values t h values

  abbrev pub given : PacketReceipt
  given = record { header = head; seq_no = n; plain = header_bytes t.exts head ++ body }

  reads : IsHeader head → header_of t.exts given.plain ≡ Some (wire_form t.exts head)
  reads fits = again t.exts head fits body

  wire_len : (wire_form t.exts head).header_len ≡ length (header_bytes t.exts head)
  unfolding wire_form
  wire_len = refl

  -- it is sealed behind the header that it reads as
  len_is : IsHeader head → head.header_len ≡ len_in t.exts given.plain
  len_is fits =
      tells_length t h values ∙ sym wire_len
      ∙ sym (ap (λ (o : Option RtpHeader). unwrap_or (option_map (λ (g : RtpHeader). g.header_len) o) 0) (reads fits))

  written_is : given.plain ≡ header_bytes t.exts head ++ drop (wire_form t.exts head).header_len given.plain
  written_is =
      sym (ap (λ (l : List ℕ). header_bytes t.exts head ++ l)
      (ap (λ (k : ℕ). drop k given.plain) wire_len ∙ drop_at (header_bytes t.exts head) body (length (header_bytes t.exts head)) refl))

  pub right_receipt : IsHeader head → h.has_padding ≡ false → n < 2 ^ 48 → h.sequence_number ≡ n % 65536 → list_any (λ L. has L h.ssrc) lines ≡ true
      → IsRightRtp cipher t.exts own lines (sealed_as cipher own given)
  unfolding wire_form
  right_receipt fits unpadded small low stream = record {
    rtp = refl;
    header = wire_form t.exts head;
    reads = reads fits;
    source = refl;
    low = low;
    small = small;
    not_filler = unpadded;
    few = fits.few;
    stream = stream;
    sealed_header = head;
    wire = refl;
    written = written_is;
    sealed = ap (λ (k : ℕ). sealed_rtp cipher own.profile own.keys h.ssrc n k given.plain) (len_is fits);
  }

-- a first sending
pub right_first : WrittenIsReadAgain → (cipher : CipherMeaning) (own : SrtpState) (lines : List Outgoing) (x : TxRecord) (t : Transport) (now : ℕ) (p : RtpPacket) → IsFine p
    → p.header.ssrc < 2 ^ 32 → list_any (λ L. has L p.header.ssrc) lines ≡ true → IsRightRtp cipher t.exts own lines (sealed_as cipher own (receipt_of x t now p))
right_first again cipher own lines x t now p f word stream =
    let low = f.low in
    right_receipt again cipher own lines t p.header (sealed_values t now x.acknowledged x.mid x.rid p.header.ext_vals) p.seq_no p.payload
    (record { number = omega arith; time = f.time; source = word; few = f.few; room = f.room; words = f.words }) f.unpadded f.number f.low stream

-- a repair
pub right_repair : WrittenIsReadAgain → (cipher : CipherMeaning) (own : SrtpState) (lines : List Outgoing) (ssrc : ℕ) (x : TxRecord) (t : Transport) (now n : ℕ) (p : SentPacket)
    → IsFine p.packet → n < 2 ^ 48 → ssrc < 2 ^ 32 → list_any (λ L. has L ssrc) lines ≡ true
    → IsRightRtp cipher t.exts own lines (sealed_as cipher own (repair_of ssrc x t now n p))
right_repair again cipher own lines ssrc x t now n p f small word stream =
    right_receipt again cipher own lines t (record p.packet.header { payload_type = p.rtx_type; sequence_number = n % 65536; ssrc = ssrc })
    (repair_values t now x.mid x.rid p.packet.header.ext_vals) n (to_be_bytes w16 (p.packet.seq_no % 65536) ++ p.packet.payload)
    (record { number = omega arith; time = f.time; source = word; few = f.few; room = f.room; words = f.words }) f.unpadded small refl stream
