pub mod Colours
pub mod Columns
pub mod TableText
pub mod Laws
