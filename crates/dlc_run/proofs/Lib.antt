pub mod Cases
pub mod Copied
pub mod Runs
pub mod Fitting
pub mod Existence
pub mod Links
