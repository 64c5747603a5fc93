pub mod Playing
pub mod Printed
pub mod RunningDay
pub mod Slips
pub mod Station
