pub mod Arguments
pub mod Bounds
pub mod Command
pub mod Spelling
pub mod Word
pub mod Verbs
