-- What the proofs of the writing functions use.
mod Closest
mod Cutting
mod Fields
mod Hexadecimal
