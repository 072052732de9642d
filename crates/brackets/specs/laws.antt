-- Laws of brackets and roots that proofs and the crates above may cite.
pub mod Evaluations
pub mod Roots
pub mod SoughtRoots
