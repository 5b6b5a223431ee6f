pub mod Choices
pub mod Parted
pub mod Endings
