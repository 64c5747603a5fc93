pub mod Days
pub mod FlatRate
