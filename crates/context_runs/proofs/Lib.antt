pub mod Joining
pub mod Linking
pub mod Placing
pub mod Spent
