pub mod Calls
pub mod Needed
pub mod Plain
pub mod Reason
pub mod Result
pub mod Rising
pub mod Worked
