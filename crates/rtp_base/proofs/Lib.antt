pub mod Names
pub mod WindowLaws
