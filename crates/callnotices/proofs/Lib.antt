pub mod Looking
pub mod Climbing
pub mod Listing
pub mod laws
