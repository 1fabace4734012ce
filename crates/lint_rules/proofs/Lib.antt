pub mod HintLemmas
pub mod ToldLemmas
