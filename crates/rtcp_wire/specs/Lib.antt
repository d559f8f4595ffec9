pub mod Wire
pub mod Rows
pub mod Frame
pub mod Reports
pub mod Descriptions
pub mod Feedback
pub mod Remb
pub mod Extended
pub mod Items
pub mod Streams
pub mod Texts
pub mod Laws
pub use Rattle.rtp_base.specs.Fields
pub use Rattle.rtp_base.specs.NackEntry
pub use Rattle.rtcp_items.specs.SdesTypes
pub use Rattle.twcc_core.specs.Reports as Arrivals
pub use Rattle.twcc_core.specs.Sending
