pub mod WorkedScopes
pub mod WorkedWalks
