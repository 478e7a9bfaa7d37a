pub mod Finer
pub mod Entered
pub mod Contexts
pub mod Below
pub mod Restricting
pub mod Copied
pub mod Shaped
