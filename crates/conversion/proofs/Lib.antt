pub mod Refusals
pub mod Turns
