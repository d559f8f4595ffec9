-- What stays of a session where its state changes.
use Rattle.std.proofs.Common.{◌≡◌, ℕ, List, Option, ap, ◌∙◌}
use Rattle.srtp_core.specs.Contexts.{SrtpState}
use Rattle.stream_core.specs.declared.packet.RtpPacket.{RtpPacket}
use Rattle.stream_core.specs.TxRecord.{TxRecord}
use Rattle.session_core.specs.SessionRecord.{SessionState}

-- what opens stays as it is
pub opening_kept : (s r : SessionState) (opening : Option SrtpState) → s ≡ r → opening ≡ s.opening → record s { opening = opening } ≡ r
opening_kept s r opening same kept = ap {A = Option SrtpState} {B = SessionState} (λ o. record s { opening = o }) kept ∙ same

-- the streams that come changed, and the packet that waits to be told
pub restored_state : (s r : SessionState) (threshold : ℕ) (tx : List (ℕ × TxRecord)) (packet : Option RtpPacket) (P : SessionState → Option RtpPacket)
    → s ≡ r → threshold ≡ s.pause_threshold → tx ≡ s.tx → packet ≡ P s → record s { pause_threshold = threshold; tx = tx; packet = packet } ≡ record r { packet = P r }
restored_state s r threshold tx packet P same h t p =
    let changed : record s { pause_threshold = threshold; tx = tx; packet = packet } ≡ record s { packet = P s } = λ j. record s { pause_threshold = h j; tx = t j; packet = p j } in
    changed ∙ ap {A = SessionState} {B = SessionState} (λ a. record a { packet = P a }) same

pub streams_kept : (s r : SessionState) (threshold : ℕ) (tx : List (ℕ × TxRecord)) → s ≡ r → threshold ≡ s.pause_threshold → tx ≡ s.tx
    → record s { pause_threshold = threshold; tx = tx } ≡ r
streams_kept s r threshold tx same h t = (λ j. record s { pause_threshold = h j; tx = t j }) ∙ same

-- the streams that come changed, and what opens stays as it is
pub mapped_state : (s r : SessionState) (threshold : ℕ) (opening : Option SrtpState) (tx : List (ℕ × TxRecord)) → s ≡ r → threshold ≡ s.pause_threshold → opening ≡ s.opening → tx ≡ s.tx
    → record s { pause_threshold = threshold; opening = opening; tx = tx } ≡ r
mapped_state s r threshold opening tx same h o t = (λ j. record s { pause_threshold = h j; opening = o j; tx = t j }) ∙ same
