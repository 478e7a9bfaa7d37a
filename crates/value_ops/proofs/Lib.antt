pub mod OperationLemmas
pub mod PointwiseLemmas
pub mod RowLemmas
pub mod RunLemmas
pub mod ProductLemmas
pub mod ApplyLemmas
