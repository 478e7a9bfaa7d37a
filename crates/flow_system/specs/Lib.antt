pub mod Due
pub mod Empty
pub mod Facts
pub mod Laws
pub mod Rules
pub mod State
