pub mod Chains
pub mod Filling
pub mod Linked
pub mod Waiting
