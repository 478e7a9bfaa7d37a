pub mod Act
pub mod Graph
pub mod Runs
