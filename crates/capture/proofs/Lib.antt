pub mod Flags
pub mod Finding
pub mod Counting
pub mod Whole
