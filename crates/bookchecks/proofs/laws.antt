pub mod Naming
pub mod Holdings
