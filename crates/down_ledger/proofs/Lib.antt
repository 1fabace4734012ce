pub mod LedgerLemmas
pub mod RosterLemmas
pub mod MarkLemmas
pub mod OpeningLemmas
pub mod HoldingLemmas
