pub mod Code
pub mod Numbered
