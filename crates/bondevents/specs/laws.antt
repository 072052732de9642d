-- The laws of the event grid that every crate above may cite, without opening a definition.
pub mod Pricing
pub mod Sides
pub mod OneEntry
pub mod NoLower
pub mod Joined
