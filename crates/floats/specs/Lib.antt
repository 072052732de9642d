pub mod Refusals
pub mod Reasons
pub mod Answers
pub mod Whole
pub mod Middle
pub mod Extremes
pub mod laws
