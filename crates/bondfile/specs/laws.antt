-- The laws of the definitions.
pub mod Files
pub mod Accepted
pub mod Kept
pub mod Made
pub mod OfKinds
