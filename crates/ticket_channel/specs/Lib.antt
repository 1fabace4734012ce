pub mod Hands
pub mod Ends
pub mod Laws
