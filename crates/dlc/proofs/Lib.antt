pub mod Parts
pub mod Views
pub mod Outcomes
pub mod FreeSlots
pub mod StaysFormed
pub mod Values
