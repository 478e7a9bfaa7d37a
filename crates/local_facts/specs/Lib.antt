pub mod Copied
pub mod Handed
pub mod Laws
pub mod Restricted
