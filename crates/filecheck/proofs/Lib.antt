pub mod Missing
pub mod Checking
