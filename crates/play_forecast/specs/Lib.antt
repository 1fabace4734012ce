pub mod PlayPlans
pub mod Courses
pub mod Files
pub mod Laws
