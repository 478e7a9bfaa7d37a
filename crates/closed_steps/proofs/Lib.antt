pub mod ActFacts
pub mod Taking
pub mod Leading
pub mod Calling
pub mod Covering
pub mod Following
