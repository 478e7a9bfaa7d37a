pub mod Comparison
pub mod Interval
pub mod Laws
pub mod Refinement
pub mod Region
pub mod Restriction
