pub mod Statuses
pub mod Groups
pub mod Starts
pub mod Worked
pub mod Batches
pub mod Laws
pub mod WorkedBatches
