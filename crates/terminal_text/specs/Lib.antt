pub mod Marks
pub mod Escapes
pub mod Texts
pub mod Shell
pub mod JsonReading
pub mod Laws
