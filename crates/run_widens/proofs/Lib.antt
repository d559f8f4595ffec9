pub mod LineLaws
pub mod SentLaws
pub mod Streams
pub mod TakenLaws
pub mod WidensLaws
