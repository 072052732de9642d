-- Laws of the event grid that rest on what its definitions say of each step; every crate above may cite them.
pub mod KeptSteps
pub mod SamePrices
pub mod LowestPrices
pub mod MadeLists
pub mod Reordering
pub mod CallSteps
pub mod Grids
pub mod GridAnswers
pub mod Repaid
