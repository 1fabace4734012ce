pub mod Pieces
pub mod Says
pub mod Readings
pub mod Reads
pub mod PlayParts
