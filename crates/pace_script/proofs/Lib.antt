pub mod Basics
pub mod CallLaws
pub mod QueueLaws
pub mod Reading
pub mod ScriptLaws
pub mod WordLaws
pub mod WrongLaws
