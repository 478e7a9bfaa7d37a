pub mod Asserted
