-- The laws of a transition's probabilities that others may cite.
pub mod Near
pub mod Operations
pub mod SpacingMargin
pub mod Spaced
pub mod ErrorMargin
pub mod ErrorSize
pub mod ChanceMargin
pub mod ChanceFloor
pub mod NeverTooLow
