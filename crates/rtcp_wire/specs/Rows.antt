-- The rows of fields that items are made of.
use Rattle.std.specs.Prelude.{ℕ, ◌+◌, ◌*◌, ◌/◌, ◌%◌, List, [], ◌∷◌, ◌++◌, slice_index}
use Rattle.std.specs.Int.{w16, w32, to_be_bytes}
use Rattle.rtp_base.specs.Wire.{half_at, word_at, words}
use Rattle.rtp_base.specs.Fields.{signed24, bits24}
use Rattle.rtp_base.specs.declared.reception_report.ReceptionReport.{ReceptionReport}
use Rattle.rtp_base.specs.declared.nack_entry.NackEntry.{NackEntry}
use Rattle.rtcp_wire.specs.declared.request.FirEntry.{FirEntry}

-- a reception block: SSRC, fraction lost and packets lost, greatest number, jitter, last SR, delay
-- (RFC 3550 section 6.4.1)
unfoldable pub report_at : List ℕ → ReceptionReport
report_at bytes = record {
  ssrc = word_at bytes 0;
  fraction_lost = word_at bytes 4 / 16777216;
  packets_lost = signed24 (word_at bytes 4 % 16777216);
  max_seq = word_at bytes 8;
  jitter = word_at bytes 12;
  last_sr_time = word_at bytes 16;
  last_sr_delay = word_at bytes 20;
}

unfoldable pub report_text : ReceptionReport → List ℕ
report_text r =
    words (r.ssrc ∷ (r.fraction_lost * 16777216 + bits24 r.packets_lost) ∷ r.max_seq ∷ r.jitter ∷ r.last_sr_time ∷ r.last_sr_delay ∷ [])

-- an entry of a NACK: PID and BLP (RFC 4585 section 6.2.1)
unfoldable pub nack_entry_at : List ℕ → NackEntry
nack_entry_at bytes = record { pid = half_at bytes 0; blp = half_at bytes 2 }

unfoldable pub nack_entry_text : NackEntry → List ℕ
nack_entry_text e = to_be_bytes w16 e.pid ++ to_be_bytes w16 e.blp

-- an entry of a FIR: SSRC, number and 24 zero bits (RFC 5104 section 4.3.1.1)
unfoldable pub fir_entry_at : List ℕ → FirEntry
fir_entry_at bytes = record { ssrc = word_at bytes 0; seq_no = slice_index bytes 4 }

unfoldable pub fir_entry_text : FirEntry → List ℕ
fir_entry_text e = to_be_bytes w32 e.ssrc ++ (e.seq_no ∷ 0 ∷ 0 ∷ 0 ∷ [])
