pub mod Entries
pub mod File
pub mod Walks
pub mod Storing
pub mod Checks
pub mod Examples
pub mod laws
