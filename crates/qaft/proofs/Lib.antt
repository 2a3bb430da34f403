pub mod Escape
pub mod Check
pub mod Frame
