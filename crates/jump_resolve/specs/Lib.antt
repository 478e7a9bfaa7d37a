pub mod Target
pub mod Law
