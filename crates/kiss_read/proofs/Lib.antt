pub mod Formed
pub mod SharedRule
pub mod Scanning
pub mod Refusals
