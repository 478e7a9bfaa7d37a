pub mod Handing
pub mod Fits
pub mod Cells
pub mod Over
