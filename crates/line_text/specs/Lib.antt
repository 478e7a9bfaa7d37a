pub mod LineText
pub mod Numeral
