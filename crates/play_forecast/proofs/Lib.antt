pub mod PatternLemmas
pub mod AlikeLemmas
pub mod SameLemmas
pub mod CourseLaws
pub mod OpenedLemmas
pub mod PlannedLemmas
