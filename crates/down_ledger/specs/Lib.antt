pub mod Ledgers
pub mod Inside
pub mod Unfit
pub mod Rosters
pub mod RosterInside
