pub mod Runs
pub mod Plays
pub mod Files
pub mod Laws
pub mod Inside
pub mod Histories
pub mod Journals
