pub mod Limits
pub mod View
pub mod Calls
