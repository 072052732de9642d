pub mod Exponential
pub mod Logarithm
pub mod Power
pub mod laws
