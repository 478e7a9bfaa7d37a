pub mod Assertions
