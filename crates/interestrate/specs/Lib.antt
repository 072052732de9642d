pub mod Rates
pub mod Prices
pub mod laws
