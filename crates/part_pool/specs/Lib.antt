pub mod Holding
pub mod Part
pub mod Pieces
pub mod Sum
