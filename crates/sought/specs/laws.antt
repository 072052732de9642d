-- Laws of what is sought that proofs and the crates above may cite.
pub mod Sought
pub mod Seeking
