pub mod Hold
pub mod Law
pub mod Part
pub mod Play
pub mod Seat
pub mod Shards
pub mod Step
pub mod Table
