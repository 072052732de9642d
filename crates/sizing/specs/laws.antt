-- The laws of the sizing entry.
pub mod Sized
