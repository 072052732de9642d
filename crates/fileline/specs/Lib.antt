pub mod Lines
pub mod laws
