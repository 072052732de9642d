pub mod Places
pub mod Blame
pub mod laws
