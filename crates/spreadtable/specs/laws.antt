-- Laws of the spread by sigma table.
pub mod Writing
pub mod Filling
pub mod FittedOnce
pub mod Refusing
pub mod NoHash
