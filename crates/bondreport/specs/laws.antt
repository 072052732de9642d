-- The laws of the definitions.
pub mod Comparing
pub mod HowMany
pub mod ReadOut
