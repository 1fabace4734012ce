pub mod Parts
pub mod Unknown
