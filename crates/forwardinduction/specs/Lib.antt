pub mod Fit
pub mod laws
