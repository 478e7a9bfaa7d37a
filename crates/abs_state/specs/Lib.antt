pub mod Flags
pub mod Key
pub mod State
pub mod Laws
