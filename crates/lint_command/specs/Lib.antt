pub mod Batches
pub mod Unlimited
pub mod Playbooks
pub mod AllNotes
pub mod LintTexts
pub mod Near
