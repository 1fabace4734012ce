pub mod Integers
pub mod LimitsText
pub mod LimitsTable
pub mod Moments
pub mod PlanText
pub mod Printable
pub mod RecapText
