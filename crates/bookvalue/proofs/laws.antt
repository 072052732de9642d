-- The laws that rest on what the definitions of a book say step by step; every crate above may cite them.
pub mod Answers
pub mod Summing
pub mod Entered
pub mod Cutting
