pub mod Asked
pub mod Begun
pub mod Limits
pub mod Plans
pub mod Courses
pub mod Rehearsals
pub mod Laws
