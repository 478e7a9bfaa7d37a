pub mod Class
pub mod Cycles
pub mod Law
pub mod Row
pub mod Table
