pub mod OwnPieces
pub mod Least
pub mod Answering
