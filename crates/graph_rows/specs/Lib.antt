pub mod Leading
pub mod Reaching
