-- What is sealed for the packet at the front.
use Rattle.std.proofs.Common.{◌≡◌, ℕ, ◌%◌, ◌≤◌, Some, ◌++◌, length, refl, sym, ap, subst, ◌∙◌, arith, length-append}
use Rattle.std.specs.Option.{option_map}
use Rattle.rtp_wire.specs.declared.extension.ExtensionMap.{ExtensionMap}
use Rattle.rtp_wire.specs.declared.header.RtpHeader.{RtpHeader}
use Rattle.rtp_wire.specs.declared.values.ExtensionValues.{ExtensionValues}
use Rattle.rtp_wire.specs.Header.{header_bytes, wire_form}
use Rattle.rtp_wire.specs.HeaderLaws.{IsReadAgain}
use Rattle.stream_core.specs.declared.packet.RtpPacket.{RtpPacket}
use Rattle.stream_core.specs.declared.stream_tx.PacketReceipt.{PacketReceipt}
use Rattle.stream_core.specs.declared.transport.Transport.{Transport}
use Rattle.stream_core.specs.Queue.{IsSendable, next_of}
use Rattle.stream_core.specs.Sealing.{sealed_values, with_values}
use Rattle.stream_core.specs.TxRecord.{TxRecord, receipt_of, polled, IsSealable}

-- the length that a header says is not among its bytes
pub bytes_of_any : (exts : ExtensionMap) (h : RtpHeader) (n : ℕ) → header_bytes exts h ≡ header_bytes exts (record h { header_len = n })
unfolding header_bytes
bytes_of_any exts h n = refl

read_of_any : (exts : ExtensionMap) (h : RtpHeader) (n : ℕ) → IsReadAgain exts h → IsReadAgain exts (record h { header_len = n })
unfolding header_bytes wire_form
read_of_any exts h n reads = reads

-- it is read again
pub read_again : (exts : ExtensionMap) (h : RtpHeader) (r : RtpHeader) → r ≡ record h { header_len = length (header_bytes exts h) } → IsReadAgain exts h → IsReadAgain exts r
read_again exts h r is reads = subst (IsReadAgain exts) (sym is) (read_of_any exts h (length (header_bytes exts h)) reads)

-- it is the receipt of that packet
pub receipt_is : (s : TxRecord) (t : Transport) (now : ℕ) (p : RtpPacket) (values : ExtensionValues) (r : PacketReceipt)
    → values ≡ sealed_values t now s.acknowledged s.mid s.rid p.header.ext_vals
    → r.header ≡ with_values t p.header values → r.seq_no ≡ p.seq_no
    → r.plain ≡ header_bytes t.exts (record p.header { ext_vals = values }) ++ p.payload
    → Some p ≡ next_of s.queue → Some r ≡ polled s t now
receipt_is s t now p values r said header number plain next =
    let valued : ExtensionValues → RtpHeader = λ v. record p.header { ext_vals = v } in
    let bytes = plain
    ∙ ap (λ h. header_bytes t.exts h ++ p.payload) (ap valued said)
    ∙ ap (λ l. l ++ p.payload) (bytes_of_any t.exts (valued (sealed_values t now s.acknowledged s.mid s.rid p.header.ext_vals)) (length (header_bytes t.exts (valued (sealed_values t now s.acknowledged s.mid s.rid p.header.ext_vals))))) in
    let front = header ∙ ap (with_values t p.header) said in
    let whole : r ≡ receipt_of s t now p = λ i. record { header = front i; seq_no = number i; plain = bytes i } in
    ap Some whole ∙ ap (option_map (receipt_of s t now)) next

-- it may be sealed
pub sealable : (exts : ExtensionMap) (h : RtpHeader) (p : RtpPacket) (r : PacketReceipt) → IsSendable p → h.sequence_number ≡ p.header.sequence_number
    → r.header ≡ record h { header_len = length (header_bytes exts h) } → r.seq_no ≡ p.seq_no → r.plain ≡ header_bytes exts h ++ p.payload → r.header.header_len ≤ 160 → IsSealable r
sealable exts h p r fits same header number plain small =
    let len = ap (λ (x : RtpHeader). x.header_len) header in
    let long = ap length plain ∙ length-append (header_bytes exts h) p.payload in
    record {
      number = omega (arith, fits.number, number);
      low = ap (λ n. n % 65536) number ∙ sym fits.low ∙ sym same ∙ sym (ap (λ (x : RtpHeader). x.sequence_number) header);
      header = omega (arith, len, long);
      small = omega (arith, len, long, small, fits.payload);
    }
