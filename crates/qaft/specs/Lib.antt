pub mod Limits
pub mod Answers
pub mod Refusal
pub mod Escape
pub mod Check
pub mod Frame
