-- What the proofs of the solver's loops use.
mod Rounds
