pub mod Answers
pub mod Refusal
pub mod Limits
pub mod Octets
pub mod Frame
