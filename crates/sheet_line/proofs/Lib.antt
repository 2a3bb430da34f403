pub mod Cases
pub mod Counts
pub mod Line
pub mod Shares
