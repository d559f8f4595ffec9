pub mod Taken
pub mod Lines
pub mod Packets
pub mod Sent
pub mod Widens
