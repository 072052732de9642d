-- The laws of the book that others may cite.
pub mod Placed
pub mod Nodes
pub mod Answers
pub mod Valuing
