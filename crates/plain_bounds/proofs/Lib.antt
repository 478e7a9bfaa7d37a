pub mod Chosen
pub mod Entered
pub mod Filling
pub mod LookedUp
pub mod Own
pub mod Shown
