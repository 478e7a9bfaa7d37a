pub mod Graph
pub mod Laws
pub mod Outcomes
pub mod Problem
pub mod Returning
pub mod Text
