pub mod Objectives
pub mod laws
