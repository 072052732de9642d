pub mod Typed
pub mod Examples
