pub mod Outcomes
pub mod Moments
pub mod Composing
pub mod Following
pub mod Lives
pub mod Settling
pub mod Rising
pub mod Counting
