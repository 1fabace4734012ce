pub mod Counts
pub mod Firsts
pub mod Ways
pub mod Unique
