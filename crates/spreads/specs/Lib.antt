pub mod Spreads
pub mod laws
