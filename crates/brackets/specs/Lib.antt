pub mod Brackets
pub mod laws
