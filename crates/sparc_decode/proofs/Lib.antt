pub mod FieldRanges
pub mod RegisterSets
pub mod Rows
