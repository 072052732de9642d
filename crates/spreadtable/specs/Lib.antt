pub mod Cells
pub mod Page
pub mod Table
pub mod Examples
pub mod laws
