pub mod JsonLemmas
pub mod PlanLemmas
pub mod UniqueLemmas
