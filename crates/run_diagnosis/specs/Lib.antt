pub mod Downs
pub mod Fulls
pub mod LeftOut
pub mod Nexts
pub mod Reasons
pub mod Rows
pub mod Standing
pub mod Whys
