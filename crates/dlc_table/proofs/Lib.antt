pub mod Rows
pub mod Refusals
pub mod Entries
pub mod StaysFormed
pub mod Cases
