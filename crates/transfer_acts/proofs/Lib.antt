pub mod Depths
pub mod Agreeing
