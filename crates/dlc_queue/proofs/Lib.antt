pub mod Limits
pub mod Short
pub mod Shape
pub mod Slots
pub mod Values
