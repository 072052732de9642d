-- The laws that rest on what the definitions say of each notice; the crates above may cite them. Assumes nothing.
pub mod Pairs
pub mod AnyOrder
pub mod RisingSeries
pub mod ListAccepted
