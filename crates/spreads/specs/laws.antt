-- Laws of the spread behind a price.
pub mod SpreadTree
pub mod SpreadSolved
