pub mod Told
pub mod Family
pub mod Laws
