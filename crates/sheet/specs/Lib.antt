pub mod Answers
pub mod Limits
pub mod Places
pub mod Tallies
