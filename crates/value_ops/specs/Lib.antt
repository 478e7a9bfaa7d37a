pub mod Laws
pub mod Operation
pub mod Row
pub mod Run
