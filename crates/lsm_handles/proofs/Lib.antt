pub mod Gates
pub mod Answered
