pub mod Entries
pub mod Finding
pub mod Graph
pub mod LoopNest
pub mod Marks
pub mod Searching
pub mod Slots
