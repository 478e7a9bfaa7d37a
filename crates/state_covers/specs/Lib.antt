pub mod Covers
pub mod Law
