-- The laws that rest on what the definitions of a cell and of the table say step by step; every crate above may cite them.
pub mod FittedOnce
pub mod Refusing
pub mod Widths
pub mod Stacking
pub mod OnPage
pub mod Alike
pub mod Examples
