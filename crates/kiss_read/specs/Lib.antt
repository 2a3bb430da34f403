pub mod State
pub mod Step
pub mod Scanned
pub mod Answer
pub mod Read
