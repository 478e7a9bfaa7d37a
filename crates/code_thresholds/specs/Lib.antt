pub mod Number
pub mod Noted
