pub mod Answers
pub mod Model
pub mod Events
pub mod Runs
pub mod Refused
