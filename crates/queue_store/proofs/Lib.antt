pub mod HeldLaws
pub mod QueueLaws
pub mod RowLaws
pub mod StampLaws
pub mod StepLaws
