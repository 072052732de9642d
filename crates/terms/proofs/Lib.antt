pub mod Laws
pub mod Seeking
pub mod Curving
pub mod Timing
pub mod Pairing
pub mod MadeLists
