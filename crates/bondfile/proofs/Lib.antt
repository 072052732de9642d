pub mod Walking
pub mod Filling
pub mod Finding
