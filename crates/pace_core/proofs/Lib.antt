pub mod AnswerLaws
pub mod BurstLaws
pub mod ClusterLaws
pub mod EnvelopeLaws
pub mod NullLaws
pub mod RunLaws
pub mod SendLaws
