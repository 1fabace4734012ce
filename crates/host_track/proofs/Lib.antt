pub mod CountLemmas
pub mod JudgingLemmas
pub mod TrackLaws
pub mod SummaryLemmas
pub mod OwingLaws
