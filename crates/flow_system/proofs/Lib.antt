pub mod Inductions
