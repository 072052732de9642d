-- The laws of the definitions.
pub mod Days
pub mod BothWays
pub mod Search
pub mod Leaps
pub mod Thirties
