pub mod Notices
pub mod Standing
pub mod Checks
pub mod Lists
pub mod Rules
pub mod Examples
pub mod laws
