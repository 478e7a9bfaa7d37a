pub mod Label
pub mod Search
pub mod Step
