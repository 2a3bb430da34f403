pub mod State
pub mod Verdict
pub mod Step
pub mod Read
pub mod Answer
