pub mod Lists
pub mod Shapes
pub mod Heads
pub mod Due
pub mod Gathered
pub mod LeastLines
pub mod Views
