pub mod Registers
pub mod Results
pub mod Sizes
pub mod Words
pub mod Plays
