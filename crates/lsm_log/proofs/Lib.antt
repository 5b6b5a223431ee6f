pub mod RecordSpells
pub mod NameLemmas
pub mod Listed
pub mod Loaded
pub mod Changed
pub mod BesideTree
