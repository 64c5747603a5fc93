pub mod Answer
pub mod Charging
pub mod Calendar
