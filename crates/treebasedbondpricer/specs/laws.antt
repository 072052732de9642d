-- The laws of the tree that others may cite.
pub mod Counts
pub mod ValueRising
pub mod CallLists
pub mod PutLists
pub mod FittedIn
pub mod Valued
pub mod Entered
pub mod Marks
