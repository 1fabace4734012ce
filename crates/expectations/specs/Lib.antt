pub mod Lists
pub mod Facts
pub mod Shown
pub mod Expecting
