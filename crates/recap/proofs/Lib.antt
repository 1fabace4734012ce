pub mod LimitsLemmas
pub mod PlanLemmas
pub mod Printing
pub mod PlaceLemmas
