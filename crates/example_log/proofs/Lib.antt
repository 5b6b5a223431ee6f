pub mod Batches
pub mod Acknowledged
pub mod Reopened
pub mod Stores
