pub mod Exchange
pub mod OneOfEach
