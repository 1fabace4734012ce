pub mod SameLemmas
pub mod LintLemmas
pub mod BatchLemmas
pub mod UnlimitedLemmas
pub mod EachLemmas
