pub mod Condition
pub mod Flags
pub mod Word
