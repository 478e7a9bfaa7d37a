pub mod Marks
pub mod Parts
pub mod Searching
pub mod Turned
