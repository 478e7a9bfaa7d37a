pub mod Beneath
pub mod Following
pub mod Keeping
pub mod Runs
pub mod StubKeeping
pub mod Writing
