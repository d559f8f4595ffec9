pub mod FaultNames
pub mod SetupRules
