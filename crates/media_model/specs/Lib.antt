pub mod Application
pub mod Entries
pub mod Genuine
pub mod Seals
pub mod Setup
pub mod Sides
pub mod Steps
