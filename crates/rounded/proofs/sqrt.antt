-- What the proofs of `sqrt` share: laws on plain numbers.
mod Scaled
mod Signs
mod Places
