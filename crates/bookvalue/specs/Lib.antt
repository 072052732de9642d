pub mod Values
pub mod Entry
pub mod Slices
pub mod laws
