pub mod Matched
pub mod Lines
pub mod Answer
pub mod Laws
