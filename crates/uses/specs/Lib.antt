pub mod Exchange
pub mod SendingAgain
