pub mod Cluster
pub mod Control
pub mod Moments
pub mod Probe
pub mod Queue
pub mod Script
