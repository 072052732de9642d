pub mod Variance
pub mod laws
