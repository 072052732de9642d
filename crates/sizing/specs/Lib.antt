pub mod Sizing
pub mod Examples
pub mod laws
