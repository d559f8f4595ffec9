pub mod Queue
pub mod Stamps
