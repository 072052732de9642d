-- The laws of the definitions.
pub mod Division
pub mod Reading
pub mod Writing
