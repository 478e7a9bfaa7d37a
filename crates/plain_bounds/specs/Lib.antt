pub mod Contexts
pub mod Filled
pub mod Table
