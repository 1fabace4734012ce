pub mod Arrays
pub mod LimitsJson
pub mod PlanJson
pub mod PlayJson
pub mod Strings
pub mod StateJson
