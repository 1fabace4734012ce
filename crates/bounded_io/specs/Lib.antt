pub mod Sending
pub mod Writing
pub mod Reading
pub mod Faults
