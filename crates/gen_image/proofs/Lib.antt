pub mod Eaches
pub mod Places
pub mod Sizes
