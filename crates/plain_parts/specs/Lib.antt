pub mod Entered
pub mod Joined
pub mod Listed
pub mod Searched
