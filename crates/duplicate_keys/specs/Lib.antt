pub mod Repeats
pub mod Inside
