pub mod Choosing
pub mod Chosen
pub mod Clashes
pub mod Endings
pub mod Lookups
pub mod Parting
pub mod Resuming
