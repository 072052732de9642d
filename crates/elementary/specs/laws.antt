-- The laws of the definitions that every crate above may cite, without opening a definition.
pub mod Exponential
pub mod Steps
pub mod Intervals
pub mod Reduction
pub mod Normal
pub mod Scales
pub mod Logarithm
pub mod Values
pub mod Refusing
pub mod Tested
pub mod Small
pub mod Rows
