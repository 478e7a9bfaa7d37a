pub mod KeyLemmas
pub mod StateLemmas
pub mod FlagsLemmas
pub mod CellsLemmas
pub mod OrderLemmas
pub mod JoinLemmas
pub mod WriteLemmas
