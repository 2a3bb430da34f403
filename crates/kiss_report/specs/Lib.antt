pub mod Outcome
pub mod Answer
