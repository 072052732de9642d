-- What the line means.
pub mod Behind
