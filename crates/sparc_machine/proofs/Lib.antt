pub mod BoundedRuns
pub mod Keeping
pub mod Reading
pub mod StraightRuns
