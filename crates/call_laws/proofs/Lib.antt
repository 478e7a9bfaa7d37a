pub mod Chains
pub mod Finds
pub mod Reasons
pub mod Results
pub mod Risings
pub mod WorkedCalls
