pub mod Overs
pub mod Journals
pub mod Debts
pub mod Resumptions
