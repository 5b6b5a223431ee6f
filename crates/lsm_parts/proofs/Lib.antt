pub mod Histories
pub mod Maintained
pub mod Removed
pub mod Finding
pub mod Holding
pub mod Fitting
pub mod Counting
