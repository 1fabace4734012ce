pub mod Keepings
pub mod Laws
pub mod Losses
pub mod Turns
pub mod Taken
pub mod Ends
pub mod Resumings
pub mod Beginnings
