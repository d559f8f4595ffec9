-- Transport-wide feedback in bytes (draft-holmer-rmcat-transport-wide-cc-extensions-01 section 3.1).
use Rattle.std.specs.Prelude.{ℕ, ◌+◌, ◌-◌, ◌*◌, ◌/◌, ◌%◌, List, [], ◌∷◌, ◌++◌, length, drop, replicate, nat_lt, Option, None, if◌then◌else◌}
use Rattle.std.specs.List.{flat_map}
use Rattle.std.specs.Option.{option_map, option_and_then}
use Rattle.rtp_base.specs.Fields.{signed24, bits24}
use Rattle.rtp_base.specs.Wire.{half_at, word_at, halves, words}
use Rattle.twcc_core.specs.Statuses.{statuses_of, delta_text}
use Rattle.twcc_core.specs.Chunks.{symbols_of, chunks_of}
use Rattle.twcc_core.specs.declared.status.PacketStatus.{PacketStatus}
use Rattle.twcc_core.specs.declared.feedback.Twcc.{Twcc}

-- feedback of such rows: the SSRCs of the sender and of the media, the base, the reference and the
-- count of feedback
abbrev pub with_rows : List ℕ → List PacketStatus → Twcc
with_rows body rows = record {
  sender_ssrc = word_at body 0;
  ssrc = word_at body 4;
  base_seq = half_at body 8;
  reference_time = signed24 (word_at body 12 / 256);
  feedback_count = word_at body 12 % 256;
  rows = rows;
}

-- the bytes after the header, of type 205 and format 15: as many packets as the count says, told by
-- chunks and then by deltas; what follows these is passed over. Nothing where the bytes end before
unfoldable pub twcc_of : List ℕ → Option Twcc
twcc_of body =
    if nat_lt (length body) 16 then None
    else option_map (with_rows body) (option_and_then (λ s. statuses_of s.0 s.1) (symbols_of (half_at body 10) (drop 16 body)))

-- the fields, the chunks and the deltas
unfoldable pub twcc_fields : Twcc → List ℕ
twcc_fields t =
    words (t.sender_ssrc ∷ t.ssrc ∷ (t.base_seq * 65536 + length t.rows) ∷ (bits24 t.reference_time * 256 + t.feedback_count) ∷ [])
    ++ halves (chunks_of t.rows) ++ flat_map delta_text t.rows

-- zeros to a whole word
abbrev pub fill_of : ℕ → ℕ
fill_of len = (4 - len % 4) % 4

-- the bytes after the header
unfoldable pub twcc_bytes : Twcc → List ℕ
twcc_bytes t = twcc_fields t ++ replicate (fill_of (length (twcc_fields t))) 0
