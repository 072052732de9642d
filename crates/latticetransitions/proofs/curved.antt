-- What the proofs of the curved tree share.
pub mod Layering
