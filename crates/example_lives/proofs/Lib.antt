pub mod Remembering
pub mod OwnLoop
