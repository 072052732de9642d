pub mod Bond
pub mod Lists
pub mod laws
