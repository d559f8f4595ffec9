pub mod GenuineLaws
pub mod Seals
