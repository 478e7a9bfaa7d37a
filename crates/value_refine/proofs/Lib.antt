pub mod ComparisonLemmas
pub mod LawLemmas
pub mod ReachLemmas
pub mod RefineLemmas
pub mod RegionLemmas
pub mod RefineFunctions
