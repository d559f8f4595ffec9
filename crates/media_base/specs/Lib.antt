pub mod BitPattern
pub mod Causes
pub mod Ends
pub mod Memory
pub mod Text
