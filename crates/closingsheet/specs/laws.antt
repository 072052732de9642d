-- The laws of the definitions.
pub mod Cents
pub mod Columns
pub mod Digits
pub mod ReadBack
pub mod HalfCents
pub mod Halves
