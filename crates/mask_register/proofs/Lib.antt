pub mod AskLaws
pub mod MaskLaws
pub mod RegisterLaws
pub mod WindowLaws
