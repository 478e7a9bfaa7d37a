pub mod Way
pub mod Handed
