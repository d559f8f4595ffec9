pub mod FirstWrong
pub mod Grammar
pub mod Laws
pub mod Spelling
pub mod Text
pub mod Words
