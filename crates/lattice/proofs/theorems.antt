-- Theorems that rest on definitions of specs. Assumes nothing.
pub mod RisingMiddles
pub mod Replaying
pub mod NextLayer
pub mod FilledFront
pub mod LaidBehind
pub mod Grown
pub mod GrownFront
pub mod LayersMore
pub mod Layering
pub mod Proper
