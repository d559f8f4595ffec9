pub mod Ends
pub mod RunCommand
pub mod PaceCommand
pub mod Command
pub mod MediaMain
pub mod Lines
