pub mod DebtLemmas
pub mod InputLemmas
pub mod OverLemmas
pub mod StartLemmas
