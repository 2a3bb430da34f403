pub mod Rules
pub mod Reader
pub mod Faithful
pub mod Theorems
