pub mod Counts
pub mod Repeats
pub mod Examples
