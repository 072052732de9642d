-- The laws of the variances that others may cite.
pub mod Filled
pub mod Pieces
pub mod EachStep
