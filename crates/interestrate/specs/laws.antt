-- Laws of rates that proofs and the crates above may cite.
pub mod Found
pub mod Rows
