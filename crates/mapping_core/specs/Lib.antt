pub mod Claims
pub mod Draws
pub mod Expecting
pub mod GoingOn
pub mod Mapped
pub mod Maps
pub mod Streams
