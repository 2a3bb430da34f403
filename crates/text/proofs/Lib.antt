pub mod Text
pub mod Putting
pub mod Room
