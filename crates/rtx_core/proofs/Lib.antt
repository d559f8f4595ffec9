pub mod Logs
pub mod Holding
pub mod Caching
pub mod Repaired
