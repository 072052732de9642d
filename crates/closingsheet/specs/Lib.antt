pub mod Cells
pub mod Sheet
pub mod Entry
pub mod HalfAway
pub mod Shown
pub mod laws
pub mod Examples
