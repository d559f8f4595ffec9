-- What items say of single streams.
use Rattle.std.specs.Prelude.{ℕ, Bool, true, false, List, [], ◌∷◌, map}
use Rattle.std.specs.List.{flat_map}
use Rattle.rtcp_items.specs.declared.extended.ReportBlock.{ReportBlock}
use Rattle.rtcp_items.specs.declared.extended.ReportBlock.TheVariants as block
use Rattle.rtcp_wire.specs.declared.packet.Rtcp.{Rtcp}
use Rattle.rtcp_wire.specs.declared.packet.Rtcp.TheVariants as rtcp
use Rattle.rtcp_wire.specs.declared.rtcp_fb.RtcpFb.{RtcpFb}
use Rattle.rtcp_wire.specs.declared.rtcp_fb.RtcpFb.TheVariants.{SenderInfo, ReceptionReport, SourceDescription, Goodbye, Rrtr, DlrrItem, Nack, Pli, Fir, Twcc, Remb, AppSpecificFeedback}
use Rattle.rtcp_wire.specs.Items.{items_of}

-- a receiver's moment is told with the SSRC of the report that it stands in
abbrev pub feedback_of_block : ℕ → ReportBlock → List RtcpFb
feedback_of_block ssrc (block.Rrtr r) = Rrtr r ssrc ∷ []
feedback_of_block ssrc (block.Dlrr d) = map DlrrItem d.items

-- a REMB is feedback for each SSRC of its list
abbrev pub feedback_of : Rtcp → List RtcpFb
feedback_of (rtcp.SenderReport r) = SenderInfo r.sender_info ∷ map ReceptionReport r.reports
feedback_of (rtcp.ReceiverReport r) = map ReceptionReport r.reports
feedback_of (rtcp.SourceDescription d) = map SourceDescription d.reports
feedback_of (rtcp.Goodbye g) = map Goodbye g.reports
feedback_of (rtcp.ExtendedReport r) = flat_map (feedback_of_block r.ssrc) r.blocks
feedback_of (rtcp.Nack n) = Nack n.ssrc n.reports ∷ []
feedback_of (rtcp.Pli p) = Pli p ∷ []
feedback_of (rtcp.Fir f) = map Fir f.reports
feedback_of (rtcp.Twcc t) = Twcc t ∷ []
feedback_of (rtcp.Remb r) = map (λ ssrc. Remb ssrc r.bitrate) r.ssrcs
feedback_of (rtcp.AppSpecificFeedback f) = AppSpecificFeedback f ∷ []

-- the feedback that a packet of RTCP holds, in order
abbrev pub feedback_in : List ℕ → List RtcpFb
feedback_in packet = flat_map feedback_of (items_of packet)

-- the stream that feedback concerns
abbrev pub stream_of : RtcpFb → ℕ
stream_of (SenderInfo s) = s.ssrc
stream_of (ReceptionReport r) = r.ssrc
stream_of (SourceDescription s) = s.ssrc
stream_of (Goodbye s) = s
stream_of (Rrtr r s) = s
stream_of (DlrrItem i) = i.ssrc
stream_of (Nack s entries) = s
stream_of (Pli p) = p.ssrc
stream_of (Fir f) = f.ssrc
stream_of (Twcc t) = t.ssrc
stream_of (Remb s rate) = s
stream_of (AppSpecificFeedback f) = f.media_ssrc

-- what a sender tells of itself, and its answers to receivers
abbrev pub concerns_received : RtcpFb → Bool
concerns_received (SenderInfo s) = true
concerns_received (SourceDescription s) = true
concerns_received (Goodbye s) = true
concerns_received (DlrrItem i) = true
concerns_received (ReceptionReport r) = false
concerns_received (Rrtr r s) = false
concerns_received (Nack s entries) = false
concerns_received (Pli p) = false
concerns_received (Fir f) = false
concerns_received (Twcc t) = false
concerns_received (Remb s rate) = false
concerns_received (AppSpecificFeedback f) = false
