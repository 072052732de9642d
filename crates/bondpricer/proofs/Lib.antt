pub mod Flowing
pub mod Entering
