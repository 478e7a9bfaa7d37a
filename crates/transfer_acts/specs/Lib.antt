pub mod Operand
pub mod Flag
pub mod Step
pub mod Reading
pub mod Act
pub mod Program
pub mod Agreement
