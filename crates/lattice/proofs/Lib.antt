-- What the proofs of more than one function use.
pub mod Laws
pub mod Fused
pub mod Signed
pub mod theorems
