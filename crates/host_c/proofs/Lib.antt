-- What the proofs of more than one function use.
pub mod Equal
pub mod Lines
pub mod Booked
pub mod Pages
