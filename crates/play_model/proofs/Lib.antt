pub mod ListLemmas
pub mod NumberLemmas
pub mod PlaceLemmas
pub mod BeginLemmas
pub mod Soundness
pub mod WordLemmas
