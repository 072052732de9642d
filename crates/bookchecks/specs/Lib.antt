pub mod Book
pub mod Checks
pub mod Lent
pub mod Slices
pub mod laws
