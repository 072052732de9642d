pub mod Decimal
pub mod Writing
pub mod laws
pub mod Examples
