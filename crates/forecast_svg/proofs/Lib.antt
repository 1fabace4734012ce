pub mod EachLemmas
pub mod EscapeLemmas
pub mod GreatestLemmas
