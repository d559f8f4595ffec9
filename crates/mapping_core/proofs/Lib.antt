pub mod Drawing
pub mod Finding
pub mod GoingOn
