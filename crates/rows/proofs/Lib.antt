pub mod Corrections
pub mod Ranges
pub mod Rows
