pub mod Survival
pub mod SoFar
pub mod Joining
pub mod Single
