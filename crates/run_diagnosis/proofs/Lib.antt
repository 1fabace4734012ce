pub mod FullLemmas
pub mod NamedLemmas
pub mod RowLemmas
pub mod TextLemmas
