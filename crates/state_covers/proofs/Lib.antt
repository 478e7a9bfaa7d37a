pub mod CoverLemmas
pub mod FlagLemmas
