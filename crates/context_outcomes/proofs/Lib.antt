pub mod Bounded
pub mod Pigeons
pub mod PlainBounds
pub mod Told
