pub mod Activation
pub mod Context
pub mod Laws
pub mod Run
pub mod Steps
pub mod Trace
pub mod Worked
