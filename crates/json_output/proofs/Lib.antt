pub mod ArrayLemmas
pub mod SameLemmas
