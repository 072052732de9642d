-- What the proofs of moving the lower end and of halving use.
pub mod Halving
pub mod Lowering
