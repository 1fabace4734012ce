pub mod Lists
pub mod EntryLaws
pub mod PlaceLaws
pub mod PathLaws
pub mod CheckLaws
pub mod AddLaws
pub mod NameLaws
pub mod FaultLaws
