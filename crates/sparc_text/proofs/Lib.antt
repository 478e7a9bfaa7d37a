pub mod Ascii
pub mod CodeWords
pub mod Digits
pub mod Listed
pub mod Rising
