pub mod Widths
pub mod laws
