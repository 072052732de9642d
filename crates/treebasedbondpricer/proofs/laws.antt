-- Laws of the tree value that rest on what its rules and its slices are said to be; every crate above may cite them.
pub mod CallLists
pub mod Entered
pub mod EntryRules
