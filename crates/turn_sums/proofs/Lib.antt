pub mod Lists
pub mod Lowered
pub mod Paths
pub mod Settled
pub mod Steps
pub mod TurnSums
