pub mod Stored
pub mod Causes
pub mod Foreign
pub mod Writing
pub mod Contents
pub mod Commits
pub mod Opening
