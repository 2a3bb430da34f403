pub mod Field
pub mod Answers
