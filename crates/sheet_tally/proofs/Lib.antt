pub mod Judging
pub mod Passing
pub mod Stopped
pub mod Sums
