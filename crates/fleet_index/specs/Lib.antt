pub mod SortedNames
pub mod NumberLists
pub mod Runs
pub mod Ids
pub mod GroupPaths
pub mod Chains
pub mod DealOrder
