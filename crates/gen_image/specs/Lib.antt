pub mod Code
pub mod File
pub mod Law
pub mod Layout
pub mod Name
pub mod Number
pub mod Section
pub mod Symbol
