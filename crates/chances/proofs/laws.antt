-- Theorems that rest on definitions of specs. Assumes nothing.
pub mod ChanceFloor
pub mod NeverTooLow
pub mod Chances
