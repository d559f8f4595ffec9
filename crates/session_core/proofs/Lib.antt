pub mod Asked
pub mod Asking
pub mod Carried
pub mod Compounds
pub mod Cuts
pub mod Dues
pub mod Failing
pub mod Fitting
mod Goodbyes
pub mod Heard
pub mod Keyed
mod Lent
pub mod Mappings
pub mod Nacks
pub mod Openings
pub mod Others
pub mod Passing
pub mod RepairSteps
pub mod Reported
pub mod Spoken
pub mod Staying
pub mod StreamsIn
pub mod Tables
pub mod Taking
pub mod Targets
pub mod Telling
pub mod TickItems
mod TypeRows
pub mod Waiting
