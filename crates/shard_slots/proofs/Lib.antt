pub mod Counts
pub mod Keeps
pub mod Means
pub mod Reaching
pub mod Allowed
pub mod Seats
pub mod Parts
