pub mod Sources
pub mod Passed
