pub mod History
pub mod Soonest
pub mod Trip
pub mod Wallclock
