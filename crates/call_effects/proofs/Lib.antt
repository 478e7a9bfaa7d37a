pub mod MaskLemmas
pub mod CallLemmas
pub mod CellLemmas
pub mod SummaryLemmas
