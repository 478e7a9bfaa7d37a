pub mod Cell
pub mod Mask
pub mod Summary
