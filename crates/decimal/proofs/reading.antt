-- What the proofs of the reading functions use.
mod Steps
