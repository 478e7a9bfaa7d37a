pub mod Answered
pub mod Leading
pub mod Program
pub mod Told
pub mod Worklist
