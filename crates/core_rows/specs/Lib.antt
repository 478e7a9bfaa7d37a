pub mod Relay
pub mod Ring
