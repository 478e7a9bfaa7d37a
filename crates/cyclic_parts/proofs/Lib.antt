pub mod Found
pub mod Lists
pub mod Marks
pub mod Names
pub mod Parts
pub mod Splits
pub mod Turned
