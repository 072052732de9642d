-- The laws of the definitions that every crate above may cite, without opening a definition.
pub mod RoundToOdd
pub mod Packing
pub mod Parts
pub mod Sums
pub mod Root
pub mod Sized
pub mod RootValue
pub mod RootBounds
pub mod Midpoints
pub mod MidpointUnits
pub mod NearestRoot
pub mod Refusing
