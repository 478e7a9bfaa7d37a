pub mod Spending
pub mod Traces
pub mod Walking
pub mod WorkedContexts
pub mod WorkedRun
