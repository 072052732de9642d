pub mod Fused
pub mod Root
pub mod laws
