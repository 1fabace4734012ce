pub mod Registers
pub mod Reads
pub mod Needs
pub mod Standing
pub mod Lookups
