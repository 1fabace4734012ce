pub mod Claims
pub mod Continuing
pub mod Outs
pub mod Places
pub mod RowLemmas
pub mod UnderWay
