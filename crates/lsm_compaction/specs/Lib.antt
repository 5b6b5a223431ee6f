pub mod Merges
pub mod OpenMerges
pub mod Passing
pub mod OpenTables
