-- Laws of the walk that rest on what its definitions say of each node and step; every crate above may cite them.
pub mod Rising
pub mod WalkRising
pub mod WalkPlaces
pub mod WalkBack
