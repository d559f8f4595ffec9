pub mod Reading
pub mod Mirrors
pub mod Packets
pub mod Laws
pub mod Rights
