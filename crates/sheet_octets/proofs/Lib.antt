pub mod Apart
pub mod Skipping
