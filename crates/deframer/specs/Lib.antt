pub mod Rule
pub mod Scan
pub mod Run
pub mod Pairs
