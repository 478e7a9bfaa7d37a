pub mod Asks
pub mod Digits
pub mod Files
pub mod Fronts
pub mod RisingLists
pub mod Rows
