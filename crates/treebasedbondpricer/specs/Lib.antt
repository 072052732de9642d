pub mod Tree
pub mod CallLists
pub mod PutLists
pub mod Entry
pub mod Slices
pub mod laws
