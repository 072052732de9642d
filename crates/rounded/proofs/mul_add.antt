-- What the proofs of mul_add's functions use: laws on plain numbers, and on its sum in terms of them.
mod Aligning
mod Gathering
