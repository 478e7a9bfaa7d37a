pub mod Answered
pub mod Filled
pub mod Opened
