-- The laws of notices.
pub mod Stages
pub mod Answers
pub mod Appending
pub mod Firsts
pub mod Alike
