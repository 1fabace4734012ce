pub mod Ends
pub mod PlanTexts
pub mod Laws
