pub mod Answers
pub mod Refused
pub mod Limits
pub mod Layout
pub mod Sizes
