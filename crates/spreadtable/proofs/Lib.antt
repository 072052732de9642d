-- What the proofs of more than one function use.
pub mod Texts
pub mod Shifted
pub mod Appending
pub mod Lanes
pub mod laws
