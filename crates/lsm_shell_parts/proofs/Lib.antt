pub mod BoundWords
pub mod Parts
pub mod Spelling
