pub mod Slices
pub mod Handed
pub mod Sheets
pub mod Books
pub mod Tables
