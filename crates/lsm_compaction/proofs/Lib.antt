pub mod Underway
pub mod RunEntries
pub mod Chosen
pub mod MadeTables
pub mod Hiding
