pub mod Laws
pub mod Courses
pub mod Told
pub mod Answered
