pub mod Firsts
pub mod Foresights
pub mod Keeping
pub mod Onces
pub mod Pasts
pub mod Standings
pub mod Told
