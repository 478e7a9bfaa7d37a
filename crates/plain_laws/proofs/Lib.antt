pub mod OneBound
pub mod OneFacts
pub mod OneHeads
pub mod OneInside
pub mod OneList
pub mod OneNest
