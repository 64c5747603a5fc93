pub mod Answering
pub mod Counts
