pub mod Putting
pub mod Digits
pub mod Figuring
pub mod Advising
pub mod Ranking
