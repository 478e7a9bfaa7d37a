pub mod Source
pub mod Step
pub mod Test
pub mod Narrow
pub mod Resolve
pub mod Family
pub mod Law
pub mod Cover
