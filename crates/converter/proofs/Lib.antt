pub mod Rules
pub mod Writing
pub mod Turns
pub mod Refusals
