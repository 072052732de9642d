pub mod Unclamped
pub mod laws
