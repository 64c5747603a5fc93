pub mod Settlements
pub mod Quantities
pub mod Law
