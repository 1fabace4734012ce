pub mod Holes
pub mod NearKeys
pub mod Groups
pub mod HostKeys
pub mod Namesakes
pub mod Fleet
pub mod Repeats
pub mod Inside
