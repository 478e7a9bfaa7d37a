pub mod Bounded
pub mod Held
pub mod Rooted
pub mod Targets
