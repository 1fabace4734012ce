pub mod UnmetLemmas
pub mod ExpectingLemmas
