pub mod Columns
pub mod Numbers
pub mod Figures
pub mod Lines
pub mod Sentences
pub mod Order
pub mod laws
