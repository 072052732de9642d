-- What the proofs and the crates above cite.
pub mod Worth
