pub mod Level
pub mod Place
