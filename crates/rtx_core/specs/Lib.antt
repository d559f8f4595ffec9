pub mod Ratio
pub mod Resends
pub mod Repairs
