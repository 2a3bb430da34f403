pub mod Calls
pub mod Events
pub mod Theorems
pub mod Worked
