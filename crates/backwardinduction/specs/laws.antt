-- The laws of the walk that others may cite.
pub mod Rising
pub mod WalkSteps
pub mod Discounts
pub mod WalkMore
pub mod Parity
pub mod WalkRoot
