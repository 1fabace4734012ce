pub mod TableLemmas
pub mod RestLemmas
pub mod CourseLemmas
pub mod LawLemmas
pub mod OwedLemmas
