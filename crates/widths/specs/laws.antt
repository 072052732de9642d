-- The laws of widths, and of a layer in one slice.
pub mod LayerMiddles
pub mod LeftOver
pub mod InPlace
pub mod Placing
pub mod Spreading
pub mod CountingNext
pub mod Moving
pub mod Widening
pub mod Summing
pub mod FewNodes
