-- The laws of layers: what the place of a step counts for, what is known of the layer before, and a layer behind another.
pub mod Places
pub mod Known
pub mod Behind
