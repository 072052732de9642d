-- Theorems that rest on definitions of specs. Assumes nothing.
pub mod Widening
pub mod Summing
pub mod FewNodes
