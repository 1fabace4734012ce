pub mod Lines
pub mod Entries
pub mod Listed
