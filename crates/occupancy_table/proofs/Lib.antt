pub mod GreatestLemmas
pub mod WalkLemmas
pub mod CellLemmas
pub mod BlockLemmas
pub mod ShownLemmas
pub mod ColourLemmas
