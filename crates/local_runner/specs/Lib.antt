pub mod Keeping
pub mod Reads
pub mod Texts
pub mod Ends
pub mod Starts
