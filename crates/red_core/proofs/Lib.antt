pub mod HoleLaws
pub mod Lasting
pub mod RingSteps
pub mod Sides
