pub mod Levels
pub mod Sheet
