pub mod Conversions
pub mod Lines
