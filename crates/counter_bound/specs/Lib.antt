pub mod Best
pub mod Body
pub mod Change
pub mod Counts
pub mod Laws
