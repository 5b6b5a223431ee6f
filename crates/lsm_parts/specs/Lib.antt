pub mod Versions
pub mod History
pub mod Maintenance
pub mod Held
