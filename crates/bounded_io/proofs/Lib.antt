pub mod SendingLemmas
pub mod WritingLemmas
pub mod Pieces
