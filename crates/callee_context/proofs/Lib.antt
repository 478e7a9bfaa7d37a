pub mod Calling
pub mod Entered
pub mod Growing
pub mod Linking
pub mod Listed
pub mod Popped
pub mod Refused
pub mod Worked
