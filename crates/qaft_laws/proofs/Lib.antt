pub mod Rules
pub mod Reader
pub mod Faithful
pub mod Changed
pub mod Longest
pub mod Theorems
