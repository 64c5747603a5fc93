pub mod Quantity
pub mod Tolerance
pub mod Nomination
pub mod Balance
pub mod Offers
pub mod OfferedBalance
pub mod OfferedBalanceLaws
pub mod Tariff
