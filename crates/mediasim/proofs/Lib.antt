pub mod Texts
pub mod Runs
pub mod Whole
pub mod PaceEnds
pub mod PaceWhole
