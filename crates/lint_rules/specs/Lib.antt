pub mod Kinds
pub mod Notes
pub mod NoteLines
pub mod Hints
pub mod NotesText
pub mod Paths
