pub mod Values
pub mod CallsWorth
pub mod laws
