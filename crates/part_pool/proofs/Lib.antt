pub mod Holdings
pub mod PieceLemmas
pub mod PartSteps
pub mod Sums
