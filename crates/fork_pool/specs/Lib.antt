pub mod Faults
pub mod Pools
pub mod Replies
pub mod Steps
pub mod Inside
pub mod ScriptLines
pub mod ScriptRows
pub mod ScriptLaws
