pub mod Rows
pub mod Counting
pub mod Dates
pub mod Spread
