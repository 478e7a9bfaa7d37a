pub mod Key
pub mod Setting
pub mod Numbers
pub mod Laws
