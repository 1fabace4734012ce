pub mod Nearness
