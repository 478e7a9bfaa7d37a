pub mod JoinedFacts
pub mod Searched
