pub mod Fair
pub mod Laws
pub mod Rules
pub mod Guarding
pub mod Fairness
pub mod LargestLaws
pub mod Counts
pub mod RunningLaws
