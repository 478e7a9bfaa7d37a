pub mod App
pub mod Law
pub mod Match
pub mod Request
