-- What the proofs of the packing functions use: laws on plain numbers, and on `round` in terms of them.
pub mod Numbers
mod Places
