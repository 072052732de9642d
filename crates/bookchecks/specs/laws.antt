pub mod Holdings
pub mod Bonds
