pub mod Surveys
pub mod PlanSurveys
pub mod CourseSurveys
pub mod Inside
pub mod Laws
