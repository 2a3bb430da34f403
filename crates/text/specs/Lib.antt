pub mod Text
pub mod Placed
pub mod Room
