pub mod Layers
pub mod Transitions
pub mod Lattice
pub mod laws
