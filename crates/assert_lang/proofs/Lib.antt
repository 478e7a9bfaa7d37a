pub mod AssertionLists
pub mod Columns
pub mod Grammars
pub mod HexDigits
pub mod Misfits
pub mod Partings
pub mod Phrases
pub mod PlaceLists
