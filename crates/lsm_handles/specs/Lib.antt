pub mod Shared
pub mod Gates
