pub mod Cases
pub mod Typing
