pub mod Limits
pub mod Within
pub mod Rows
pub mod Bookings
