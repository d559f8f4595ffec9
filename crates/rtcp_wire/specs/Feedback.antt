-- Feedback (RFC 4585 section 6).
use Rattle.std.specs.Prelude.{ℕ, ◌-◌, ◌/◌, ◌%◌, ◌==◌, ◌||◌, not, min, List, [], ◌∷◌, ◌++◌, length, drop, nat_lt, Option, Some, None, if◌then◌else◌}
use Rattle.std.specs.List.{flat_map}
use Rattle.rtp_base.specs.Wire.{word_at, words}
use Rattle.rtcp_wire.specs.Wire.{rows_of}
use Rattle.rtcp_wire.specs.Rows.{nack_entry_at, nack_entry_text, fir_entry_at, fir_entry_text}
use Rattle.rtcp_wire.specs.declared.nack.Nack.{Nack}
use Rattle.rtcp_wire.specs.declared.request.Pli.{Pli}
use Rattle.rtcp_wire.specs.declared.request.Fir.{Fir}
use Rattle.rtcp_wire.specs.declared.feedback.AppSpecificFeedback.{AppSpecificFeedback}
use Rattle.rtp_base.specs.declared.report_list.TheConstants.{MAX_REPORTS}

-- type 205, format 1: the SSRCs of the sender and of the media, and entries that fill the item, of
-- which the first 31 are read (RFC 4585 section 6.2.1)
unfoldable pub nack_of : List ℕ → Option Nack
nack_of body =
    if nat_lt (length body) 8 || not (length body % 4 == 0) then None
    else Some (record { sender_ssrc = word_at body 0; ssrc = word_at body 4; reports = rows_of nack_entry_at 4 (min ((length body - 8) / 4) MAX_REPORTS) (drop 8 body) })

unfoldable pub nack_body : Nack → List ℕ
nack_body n = words (n.sender_ssrc ∷ n.ssrc ∷ []) ++ flat_map nack_entry_text n.reports

-- type 206, format 1: the SSRCs of the sender and of the media (RFC 4585 section 6.3.1)
unfoldable pub pli_of : List ℕ → Option Pli
pli_of body =
    if nat_lt (length body) 8 then None
    else Some (record { sender_ssrc = word_at body 0; ssrc = word_at body 4 })

unfoldable pub pli_body : Pli → List ℕ
pli_body p = words (p.sender_ssrc ∷ p.ssrc ∷ [])

-- type 206, format 4: the SSRC of the sender, 0, and entries that fill the item, of which the first
-- 31 are read (RFC 5104 section 4.3.1.1)
unfoldable pub fir_of : List ℕ → Option Fir
fir_of body =
    if nat_lt (length body) 8 || not (length body % 8 == 0) then None
    else Some (record { sender_ssrc = word_at body 0; reports = rows_of fir_entry_at 8 (min ((length body - 8) / 8) MAX_REPORTS) (drop 8 body) })

unfoldable pub fir_body : Fir → List ℕ
fir_body f = words (f.sender_ssrc ∷ 0 ∷ []) ++ flat_map fir_entry_text f.reports

-- type 206, format 15: the SSRCs of the sender and of the media, and whole words
-- (RFC 4585 section 6.4)
unfoldable pub app_feedback_of : List ℕ → Option AppSpecificFeedback
app_feedback_of body =
    if nat_lt (length body) 8 || not (length body % 4 == 0) then None
    else Some (record { sender_ssrc = word_at body 0; media_ssrc = word_at body 4; payload = drop 8 body })

unfoldable pub app_feedback_body : AppSpecificFeedback → List ℕ
app_feedback_body f = words (f.sender_ssrc ∷ f.media_ssrc ∷ []) ++ f.payload
